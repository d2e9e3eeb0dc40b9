-- `frames::next_frame` meets its contract. Assumes nothing.
use mathlib.Core.Path.{◌≡◌, refl, ap, ap₂, sym, ◌∙◌}
use mathlib.Core.Bool.{Bool, true}
use Prim.Native.Nat.{ℕ, ◌+◌, ◌*◌, ◌≤◌, ◌<◌}
use native.Mathlib.Nat.{mul-le-mul}
use native.Mathlib.Omega.{arith}
use lib.ListN.{length}
use Rattle.format.specs.Format.{max_channels, slices_of}
use Rattle.format.specs.Grammar.{tail_ok}
use Rattle.format.specs.Header.{left_at}
use Rattle.state.specs.View.{View, view}
use Rattle.state.specs.States.{good_state}
use Rattle.state.specs.declared.QoaDecoder.{QoaDecoder}
use Rattle.into.specs.Into.{groups_end}
use Rattle.frames.specs.Frames.{past_rest, frame_read}
use Rattle.into.proofs.Counts.{slices_most}
use Rattle.frames.proofs.FrameLaws.{enter_end, enter_tail, next_bad, next_cut, next_entered}
use Rattle.into.proofs.Sound.{Sound, sound}
use borrow.Author.Rules.{rules}
use Rattle.frames.proofs.next_frame.Goals as goal
use Rattle.frames.proofs.next_frame.Goals.{After-slices_of-slices, After-tail_ok, Else-bytes-place, Else-not-is_good, Start}

pub returns-then-not-is_good : goal.returns-then-not-is_good
returns-then-not-is_good c =
    let args = c.args in
    next_bad args.bytes.now args.d c.refused.result (sym c.is_good.ensures ∙ c.if-not-is_good.true) c.refused.ensures.0 c.refused.ensures.1

-- ---- a good state

is-good : (c : Else-not-is_good) → good_state (view c.args.d) (length c.args.bytes.now) ≡ true
is-good c = sym c.is_good.ensures ∙ c.if-not-is_good.false

facts : (c : Else-not-is_good) → Sound c.args.d (length c.args.bytes.now)
facts c = sound _ _ (is-good c)

same-mode : (d : QoaDecoder) → (view d).mode ≡ d.mode
unfolding view
same-mode d = refl

small : (c : Start) → c.args.d.remaining ≤ 65535
small c = search rules

abbrev first-of : After-slices_of-slices → Else-not-is_good
first-of c = (goal.at.After-slices_of-slices c).Else-not-is_good

abbrev start_of : After-slices_of-slices → Start
start_of c = (goal.at.After-slices_of-slices c).Start

-- the place after what remains
place_is : (c : After-slices_of-slices) →
    let d = (start_of c).args.d in
    groups_end (view d) (slices_of (view d).remaining) ≡ d.at + 8 * (c.slices_of-slices.result * d.frame.channels)
unfolding view
place_is c = ap (λ (k : ℕ). (start_of c).args.d.at + 8 * (k * (start_of c).args.d.frame.channels)) (sym c.slices_of-slices.ensures)

slices_small : (c : After-slices_of-slices) → c.slices_of-slices.result * (start_of c).args.d.frame.channels ≤ 3277 * max_channels
slices_small c = mul-le-mul {n₂ = 3277} {m₂ = max_channels} (omega (arith, c.slices_of-slices.ensures, slices_most (start_of c).args.d.remaining (small (start_of c)))) (facts (first-of c)).few_channels

pub overflow_mul-place : goal.overflow_mul-place
overflow_mul-place c = omega (arith, slices_small (goal.at.overflow_mul-place c).After-slices_of-slices)

pub overflow_mul-place-2 : goal.overflow_mul-place-2
overflow_mul-place-2 c = omega (arith, slices_small (goal.at.overflow_mul-place-2 c).After-slices_of-slices)

pub overflow_add-place : goal.overflow_add-place
overflow_add-place c =
    let before = (goal.at.overflow_add-place c).After-slices_of-slices in
    omega (arith, slices_small before, (facts (first-of before)).place, (start_of before).well_formed)

pub returns-then-bytes-place : goal.returns-then-bytes-place
returns-then-bytes-place c =
    let args = (start_of (goal.at.returns-then-bytes-place c).After-slices_of-slices).args in
    next_cut args.bytes.now args.d c.refused-then-bytes-place.result (is-good (first-of (goal.at.returns-then-bytes-place c).After-slices_of-slices)) (rw (place_is (goal.at.returns-then-bytes-place c).After-slices_of-slices) c.if-bytes-place.true) c.refused-then-bytes-place.ensures.0 c.refused-then-bytes-place.ensures.1

whole : (c : Else-bytes-place) →
    let args = (start_of (goal.at.Else-bytes-place c).After-slices_of-slices).args in
    groups_end (view args.d) (slices_of (view args.d).remaining) ≤ length args.bytes.now
whole c = rw (place_is (goal.at.Else-bytes-place c).After-slices_of-slices) c.if-bytes-place.false

-- the end of the bytes, after what remains
module _ (c : After-tail_ok) where
  abbrev rest : Else-bytes-place
  rest = (goal.at.After-tail_ok c).Else-bytes-place

  abbrev slices : After-slices_of-slices
  slices = (goal.at.After-tail_ok c).After-slices_of-slices

  abbrev gone : View
  gone = past_rest c.args.bytes.now (view c.args.d)

  short : left_at c.args.bytes.now gone.at < 8
  unfolding past_rest
  short = rw (place_is slices) c.if-left-lt-QOA_HEADER_SIZE.true

  tail_is : c.tail_ok.result ≡ tail_ok (left_at c.args.bytes.now gone.at) (frame_read gone)
  unfolding past_rest
  tail_is = c.tail_ok.ensures ∙ ap₂ (λ (p : ℕ) (b : Bool). tail_ok (left_at c.args.bytes.now p) b) (sym (place_is slices)) c.has_read.ensures

pub returns-then-not-tail_ok : goal.returns-then-not-tail_ok
returns-then-not-tail_ok c =
    let tail = (goal.at.returns-then-not-tail_ok c).After-tail_ok in
    let args = c.args in
    next_entered args.bytes.now args.d c.refused-then-not-tail_ok.result (is-good (first-of (slices tail))) (whole (rest tail))
    (enter_tail args.bytes.now args.d (gone tail) c.refused-then-not-tail_ok.result (short tail) (sym (tail_is tail) ∙ c.if-not-tail_ok.true) c.refused-then-not-tail_ok.ensures.0 c.refused-then-not-tail_ok.ensures.1)

pub drop_rest-requires : goal.drop_rest-requires
unfolding view
drop_rest-requires c =
    let tail = (goal.at.drop_rest-requires c).After-tail_ok in
    record { good = is-good (first-of (slices tail)); whole = whole (rest tail) }

pub returns-then-left-lt-QOA_HEADER_SIZE : goal.returns-then-left-lt-QOA_HEADER_SIZE
returns-then-left-lt-QOA_HEADER_SIZE c =
    let tail = (goal.at.returns-then-left-lt-QOA_HEADER_SIZE c).After-tail_ok in
    let args = c.args in
    next_entered args.bytes.now args.d _ (is-good (first-of (slices tail))) (whole (rest tail))
    (enter_end args.bytes.now args.d (gone tail) _ (short tail) (sym (tail_is tail) ∙ c.if-not-tail_ok.false) refl c.drop_rest.ensures)

pub returns : goal.returns
unfolding past_rest
returns c =
    let args = (start_of (goal.at.returns c).After-slices_of-slices).args in
    next_entered args.bytes.now args.d c.enter_frame.result (is-good (first-of (goal.at.returns c).After-slices_of-slices)) (whole (goal.at.returns c).Else-bytes-place)
    (c.enter_frame.ensures (past_rest args.bytes.now (view args.d)) (same-mode args.d) (place_is (goal.at.returns c).After-slices_of-slices))
