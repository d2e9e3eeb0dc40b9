-- The state after what remains is dropped, and at the start of a frame, as the code leaves it. Assumes nothing.
use mathlib.Core.Path.{◌≡◌, refl, ap, ◌∙◌}
use mathlib.Core.Bool.{Bool, true, false, cond}
use mathlib.Core.List.{List}
use mathlib.Core.Logic.{dite}
use mathlib.Core.Option.{none, some}
use Prim.Native.Nat.{ℕ, ◌+◌, ◌*◌, ◌≤◌, ◌<◌}
use native.Mathlib.Decide.{dec_lt}
use native.Mathlib.Omega.{arith}
use borrow.Author.Tests.{le-ltb, lt-ltb}
use lib.Dec.{ltb}
use lib.ListN.{length}
use lib.Seq.{ext_get_or}
use Rattle.refusal.specs.Rules.{Rule, first_of}
use Rattle.word.specs.Table.{table}
use Rattle.refusal.proofs.Rules.{fires}
use Rattle.word.proofs.Tests.{tests}
use Rattle.lms.specs.declared.QoaLms.{QoaLms}
use Rattle.format.specs.Format.{slices_of, state_end}
use Rattle.format.specs.Grammar.{tail_ok}
use Rattle.format.specs.Header.{header_at, left_at}
use Rattle.format.specs.Predictor.{lms_at, no_lms}
use Rattle.refusal.specs.Refusals.{number_of}
use Rattle.format.specs.declared.frame.FrameHeader.{FrameHeader}
use Rattle.refusal.specs.declared.Refusal.{Refusal}
use Rattle.refusal.specs.declared.Refusal.TheVariants.{BadState, Truncated}
use Rattle.groups.specs.Channel.{run_after}
use Rattle.word.specs.Parts.{written}
use Rattle.groups.proofs.GroupLaws.{groups_lms_lem, groups_other, length_groups}
use Rattle.state.specs.View.{View, facts_in, moved_to, none_pending, view}
use Rattle.state.specs.States.{good_state}
use Rattle.state.specs.declared.QoaDecoder.{QoaDecoder}
use Rattle.state.proofs.Views.{stored_lms}
use Rattle.into.specs.Into.{groups_end}
use Rattle.frames.specs.Frames.{NextDone, past_rest, enter_rules, entered, entered_or, entry_rules, found_at, frame_read, next_rules}
use Rattle.refusal.specs.declared.Done.{Done}
use Rattle.std.specs.Prelude.{Option, Some, None, Result, Ok, Err}
use Rattle.state.specs.declared.FrameFacts.{FrameFacts}
use Rattle.into.proofs.Coming.{lms_after}
use Rattle.frames.specs.Parts.{EnterDone}
use Rattle.groups.specs.Parts.{groups_states}
use Rattle.into.proofs.Taken as T

-- no group leaves the predictors as they are
pub groups_still : (bs : List ℕ) (p c : ℕ) (states : List QoaLms) → groups_states bs p c states 0 ≡ states
unfolding run_after
groups_still bs p c states =
    ext_get_or no_lms (groups_states bs p c states 0) states (length_groups bs p c states 0)
    (λ j room.
    let inside : j < length states = rw length_groups at room in
    dite (dec_lt j c)
    (λ used. groups_lms_lem bs p c states 0 j used inside)
    (λ past. groups_other bs p c states 0 j (omega arith)))

module _ (bs : List ℕ) (d : QoaDecoder) where
  -- all that remains, dropped
  pub view_dropped : d.frame.channels ≤ length d.lms
      → view (T.left_at d (d.at + 8 * (slices_of d.remaining * d.frame.channels)) 0 0 0 true (groups_states bs d.at d.frame.channels d.lms (slices_of d.remaining)) d.pending)
      ≡ past_rest bs (view d)
  unfolding view past_rest table
  view_dropped room =
      let lms-is = lms_after bs d (slices_of d.remaining) room in
      λ i. moved_to (view d) d.frame (d.at + 8 * (slices_of d.remaining * d.frame.channels)) 0 none_pending (lms-is i)

  -- the state at the start of a frame
  abbrev pub started_at : ℕ → FrameHeader → QoaDecoder
  started_at place h = record {
    mode = d.mode;
    at = place + state_end h.channels;
    frame = facts_in h;
    remaining = h.samples;
    next = 0;
    end = 0;
    given = true;
    lms = written (λ j. lms_at bs (place + 8 + 16 * j)) d.lms 0 1 h.channels;
    pending = d.pending;
  }

  pub view_started : (place : ℕ) (h : FrameHeader) → h ≡ header_at bs place → h.channels ≤ length d.lms → (v : View) → v.mode ≡ d.mode → v.at ≡ place
      → view (started_at place h) ≡ entered bs v
  unfolding view entered table
  view_started place h h-is room v mode-is at-is =
      let lms-is = stored_lms (λ j. lms_at bs (place + 8 + 16 * j)) d.lms h.channels room in
      rw (mode-is, at-is, ← h-is) (λ i. moved_to (view d) (facts_in h) (place + state_end h.channels) h.samples none_pending (lms-is i))

-- ---- entering a frame, or the end

module _ (bs : List ℕ) (d : QoaDecoder) (v : View) (r : Done (Result (Option FrameFacts) Refusal) QoaDecoder) where
  -- the end, where that tail may be left, and where it may not
  pub enter_end : left_at bs v.at < 8 → tail_ok (left_at bs v.at) (frame_read v) ≡ true → r.answer ≡ Ok None → view r.state ≡ v → EnterDone bs d v r
  unfolding enter_rules found_at entered_or first_of
  enter_end short ok answer state = let test = lt-ltb (left_at bs v.at) 8 short in record { told = rw (test, ok, answer); left = rw (test, ok) state }

  pub enter_tail : left_at bs v.at < 8 → tail_ok (left_at bs v.at) (frame_read v) ≡ false → r.answer ≡ Err Truncated → r.state ≡ d → EnterDone bs d v r
  unfolding enter_rules first_of
  enter_tail short bad answer state = let test = lt-ltb (left_at bs v.at) 8 short in record { told = rw (test, bad, answer); left = rw (test, bad) state }

  module _ (place : ℕ) (room : place + 8 ≤ length bs) (mode-is : v.mode ≡ d.mode) (at-is : v.at ≡ place) where
    abbrev rules : List Rule
    rules = entry_rules d.mode (header_at bs place) (left_at bs place)

    there : ltb (left_at bs place) 8 ≡ false
    there = le-ltb (left_at bs place) 8 (omega arith)

    rules_are : enter_rules bs v ≡ rules
    unfolding enter_rules
    rules_are = rw (at-is, mode-is, there)

    pub enter_refused : (x : Refusal) → first_of rules ≡ some (number_of x) → r.answer ≡ Err x → r.state ≡ d → EnterDone bs d v r
    enter_refused x e answer state = record { told = rw (rules_are, e, answer); left = rw (rules_are, e) state }

    found_is : found_at bs v ≡ Some (facts_in (header_at bs place))
    unfolding found_at
    found_is = rw (at-is, there)

    entered_is : entered_or bs v ≡ entered bs v
    unfolding entered_or
    entered_is = let test : ltb (left_at bs v.at) 8 ≡ false = rw at-is there in ap (λ (b : Bool). cond b v (entered bs v)) test

    pub enter_passed : first_of rules ≡ none → r.answer ≡ Ok (Some (facts_in (header_at bs place))) → view r.state ≡ entered bs v → EnterDone bs d v r
    enter_passed e answer state = record { told = rw (rules_are, e, answer, found_is); left = rw (rules_are, e, entered_is) state }

-- ---- the call

module _ (bs : List ℕ) (d : QoaDecoder) (r : Done (Result (Option FrameFacts) Refusal) QoaDecoder) where
  pub next_bad : good_state (view d) (length bs) ≡ false → r.answer ≡ Err BadState → r.state ≡ d → NextDone bs d r
  unfolding next_rules
  next_bad e answer state =
      let f : first_of (next_rules bs (view d)) ≡ some 8 = fires 0 (next_rules bs (view d)) 8 (rw e (tt, refl)) in
      record { told = rw (f, answer); left = rw f state }

  pub next_cut : good_state (view d) (length bs) ≡ true → length bs < groups_end (view d) (slices_of (view d).remaining) → r.answer ≡ Err Truncated → r.state ≡ d → NextDone bs d r
  unfolding next_rules
  next_cut e cut answer state =
      let f : first_of (next_rules bs (view d)) ≡ some 5 = fires 1 (next_rules bs (view d)) 5 (rw e (tt, (omega (arith, tests), refl))) in
      record { told = rw (f, answer); left = rw f state }

  pub next_entered : good_state (view d) (length bs) ≡ true → groups_end (view d) (slices_of (view d).remaining) ≤ length bs → EnterDone bs d (past_rest bs (view d)) r → NextDone bs d r
  unfolding next_rules first_of
  next_entered e whole done =
      let five = le-ltb (length bs) (groups_end (view d) (slices_of (view d).remaining)) whole in
      let f : first_of (next_rules bs (view d)) ≡ first_of (enter_rules bs (past_rest bs (view d))) = rw (e, five) in
      record { told = done.told ∙ rw f; left = rw f done.left }
