-- `state::rules::is_good` meets its contract: what is joined at each `&&`. Assumes nothing.
use borrow.Author.Tests.{le-leb, leb-true, lt-leb}
use mathlib.Core.Path.{◌≡◌, refl, ap, sym, ◌∙◌}
use mathlib.Core.Bool.{Bool, true, false, ◌&&◌}
use Prim.Native.Nat.{ℕ, ◌*◌, ◌≤◌}
use native.Mathlib.Omega.{arith}
use lib.ListN.{length}
use lib.Dec.{leb}
use Rattle.format.specs.Format.{max_channels}
use Rattle.state.specs.States.{lms_rule, mode_rule, some_channels, weight_bound}
use Rattle.state.specs.declared.QoaDecoder.{QoaDecoder}
use Rattle.word.proofs.Belows.{and_left, and_right}
use Rattle.state.proofs.Alls.{used_rule}
use Rattle.state.proofs.GoodStates.{good_view}
use Rattle.state.proofs.rules.is_good.Goals as goal
use Rattle.state.proofs.rules.is_good.Goals.{Joined-d-bytes, Joined-is_good_mode, Joined-is_good_frame, then-d-bytes, else-d-bytes, then-is_good_mode, else-is_good_mode, then-is_good_frame, else-is_good_frame}

abbrev frameRule : QoaDecoder → Bool
frameRule d = leb d.frame.channels max_channels && (some_channels d.frame.channels d.remaining && leb d.remaining d.frame.samples)

abbrev rangeRule : QoaDecoder → Bool
rangeRule d = leb d.next d.end && leb d.end (20 * d.frame.channels)

place_mode : (c : Joined-d-bytes) → c.if-d-bytes.value ≡ (leb c.args.d.at c.args.bytes && mode_rule c.args.d.mode)
place_mode c =
    elim c.if-d-bytes.branch [
      | then-d-bytes w ↦ rw (le-leb c.args.d.at c.args.bytes w.if-d-bytes.true) (w.value-is ∙ w.is_good_mode.ensures)
      | else-d-bytes w ↦ let past = lt-leb c.args.d.at c.args.bytes w.if-d-bytes.false in rw past (w.value-is ∙ past)
    ]

and_frame : (c : Joined-is_good_mode) → c.if-is_good_mode.value ≡ ((leb c.args.d.at c.args.bytes && mode_rule c.args.d.mode) && frameRule c.args.d)
and_frame c =
    let before = place_mode (goal.at.Joined-is_good_mode c).Joined-d-bytes in
    elim c.if-is_good_mode.branch [
      | then-is_good_mode w ↦ rw (sym before ∙ w.if-is_good_mode.true) (w.value-is ∙ w.is_good_frame.ensures)
      | else-is_good_mode w ↦ rw (sym before ∙ w.if-is_good_mode.false) (w.value-is ∙ w.if-is_good_mode.false)
    ]

and_range : (c : Joined-is_good_frame) → c.if-is_good_frame.value ≡ (((leb c.args.d.at c.args.bytes && mode_rule c.args.d.mode) && frameRule c.args.d) && rangeRule c.args.d)
and_range c =
    let before = and_frame (goal.at.Joined-is_good_frame c).Joined-is_good_mode in
    elim c.if-is_good_frame.branch [
      | then-is_good_frame w ↦ rw (sym before ∙ w.if-is_good_frame.true) (w.value-is ∙ w.is_good_range.ensures)
      | else-is_good_frame w ↦ rw (sym before ∙ w.if-is_good_frame.false) (w.value-is ∙ w.if-is_good_frame.false)
    ]

-- the rules in the code's order, as it joins them
joined : (a b c d e : Bool) → (a && (b && (c && (d && e)))) ≡ ((((a && b) && c) && d) && e)
joined false b c d e = refl
joined true false c d e = refl
joined true true false d e = refl
joined true true true d e = refl

pub returns-then-is_good_range : goal.returns-then-is_good_range
returns-then-is_good_range c =
    let d = c.args.d in
    let j = (goal.at.returns-then-is_good_range c).Joined-is_good_frame in
    let passed = sym (and_range j) ∙ c.if-is_good_range.true in
    let frame-good = and_right (leb d.at c.args.bytes && mode_rule d.mode) (frameRule d) (and_left _ (rangeRule d) passed) in
    let few = leb-true d.frame.channels max_channels (and_left _ _ frame-good) in
    let room : d.frame.channels ≤ length d.lms = omega (arith, few) in
    c.are_good_states.ensures
    ∙ used_rule d.frame.channels c.weight_bound.result d.lms room
    ∙ ap (λ (b : ℕ). lms_rule d.frame.channels b d.lms) c.weight_bound.ensures
    ∙ sym (good_view d c.args.bytes ∙ joined (leb d.at c.args.bytes) (mode_rule d.mode) (frameRule d) (rangeRule d) (lms_rule d.frame.channels (weight_bound d.remaining) d.lms) ∙ rw passed)

pub returns-else-is_good_range : goal.returns-else-is_good_range
returns-else-is_good_range c =
    let d = c.args.d in
    let j = (goal.at.returns-else-is_good_range c).Joined-is_good_frame in
    let failed = sym (and_range j) ∙ c.if-is_good_range.false in
    c.if-is_good_range.false ∙ sym (good_view d c.args.bytes ∙ joined (leb d.at c.args.bytes) (mode_rule d.mode) (frameRule d) (rangeRule d) (lms_rule d.frame.channels (weight_bound d.remaining) d.lms) ∙ rw failed)
