-- Each turn of the item step keeps its promise, and the call that takes it. Assumes nothing.
use mathlib.Core.Path.{◌≡◌, refl, ap, sym, ◌∙◌}
use mathlib.Core.Bool.{true, false}
use mathlib.Core.List.{List}
use mathlib.Core.Option.{Option as Option', none, some}
use Prim.Native.Nat.{ℕ, ◌+◌, ◌-◌, ◌*◌, ◌≤◌, ◌<◌}
use native.Mathlib.Nat.{add-zero}
use native.Mathlib.Omega.{arith}
use borrow.Author.Tests.{le-ltb, lt-ltb}
use lib.Dec.{ltb}
use lib.IntN.{ℤ, pos}
use lib.ListN.{get_or, length}
use Rattle.refusal.specs.Rules.{Answer, good, refused, first_of, unless}
use Rattle.word.specs.Table.{table}
use Rattle.refusal.proofs.Rules.{fires, good_same, never, none_fires, refused_one}
use Rattle.word.proofs.Tests.{tests}
use Rattle.word.proofs.Writes.{written_at}
use Rattle.refusal.specs.Refusals.{number_of, told}
use Rattle.refusal.specs.declared.Refusal.TheVariants.{BadState, Truncated}
use Rattle.state.specs.View.{view, waiting, flagged}
use Rattle.state.specs.States.{good_state}
use Rattle.state.specs.declared.QoaDecoder.{QoaDecoder}
use Rattle.into.specs.Into.{coming_at, groups_for, taken_from}
use Rattle.frames.specs.Frames.{enter_rules, entered_or, found_at}
use Rattle.decoder.specs.Items.{ItemDone, Turn, first_header, from_group, from_next, from_pending, item_after, item_in, item_of, item_rules, settled, turn_of, turn_rules}
use Rattle.refusal.specs.declared.Done.{Done}
use Rattle.refusal.specs.declared.Refusal.{Refusal}
use Rattle.state.specs.declared.FrameFacts.{FrameFacts}
use Rattle.decoder.specs.declared.QoaItem.{QoaItem}
use Rattle.decoder.specs.declared.QoaItem.TheVariants.{Header, Sample}
use Rattle.std.specs.Prelude.{Option, Some, Result, Ok, Err}
use Rattle.into.proofs.Counts.{groups_one}
use Rattle.into.proofs.Coming.{coming_pending}
use Rattle.frames.specs.Parts.{EnterDone}
use Rattle.decoder.specs.Parts.{TurnDone}
use Rattle.word.specs.Parts.{written}

-- a state with no sample pending
pub view_settled : (d : QoaDecoder)
    → view (record { mode = d.mode; at = d.at; frame = d.frame; remaining = d.remaining; next = 0; end = 0; given = true; lms = d.lms; pending = d.pending }) ≡ settled (view d)
unfolding view table
view_settled d = refl

-- ---- whose turn it is

module _ (d : QoaDecoder) where
  pub turn_pending : d.next < d.end → turn_of (view d) ≡ from_pending
  unfolding turn_of view
  turn_pending h = rw (lt-ltb 0 (d.end - d.next) (omega arith))

  module _ (nothing : d.end ≤ d.next) where
    no_sample : ltb 0 (d.end - d.next) ≡ false
    no_sample = le-ltb 0 (d.end - d.next) (omega arith)

    pub turn_header : d.given ≡ false → turn_of (view d) ≡ first_header
    unfolding turn_of view
    turn_header e = rw (no_sample, e)

    pub turn_group : d.given ≡ true → 0 < d.remaining → turn_of (view d) ≡ from_group
    unfolding turn_of view
    turn_group e h = rw (no_sample, e, lt-ltb 0 d.remaining h)

    pub turn_next : d.given ≡ true → d.remaining ≤ 0 → turn_of (view d) ≡ from_next
    unfolding turn_of view
    turn_next e gone = rw (no_sample, e, le-ltb 0 d.remaining gone)

-- ---- the turns

module _ (bs : List ℕ) (d : QoaDecoder) (state : QoaDecoder) where
  pub pending_turn : (x : ℤ) → x ≡ get_or d.pending d.next (pos 0) → d.next < d.end → view state ≡ flagged d.given (taken_from bs (view d) 0 1)
      → TurnDone from_pending bs d (record { answer = Ok (Some (Sample x)); state = state })
  unfolding first_of view
  pending_turn x e h state-is =
      let first : coming_at bs (view d) 0 ≡ x = coming_pending bs d 0 (omega arith) ∙ rw add-zero (sym e) in
      record { told = rw first; left = state-is }

  pub header_turn : view state ≡ settled (view d) → TurnDone first_header bs d (record { answer = Ok (Some (Header d.frame)); state = state })
  unfolding first_of view
  header_turn state-is = record { told = refl; left = state-is }

  pub group_cut : (r : Done (Result (Option QoaItem) Refusal) QoaDecoder) → length bs < d.at + 8 * d.frame.channels → r.answer ≡ Err Truncated → r.state ≡ d → TurnDone from_group bs d r
  unfolding view
  group_cut r cut item state-is =
      let f : first_of (turn_rules from_group bs (view d)) ≡ some 5 = fires 0 (turn_rules from_group bs (view d)) 5 (omega (arith, tests), refl) in
      record { told = rw (f, item); left = rw f state-is }

  -- what a call for one sample leaves
  pub group_turn : (x : ℤ) (out out' : List ℤ) → x ≡ get_or out' 0 (pos 0) → d.end ≤ d.next → 0 < d.frame.channels → d.at + 8 * d.frame.channels ≤ length bs → 0 < length out
      → out' ≡ written (coming_at bs (view d)) out 0 1 (waiting (view d) + 1) → view state ≡ taken_from bs (view d) (groups_for d.frame.channels 1) (waiting (view d) + 1)
      → TurnDone from_group bs d (record { answer = Ok (Some (Sample x)); state = state })
  unfolding view
  group_turn x out out' e nothing channels whole room out-is state-is =
      let f : first_of (turn_rules from_group bs (view d)) ≡ none = none_fires (turn_rules from_group bs (view d)) (omega (arith, tests), tt) in
      let one : waiting (view d) + 1 ≡ 1 = omega arith in
      let stored : out' ≡ written (coming_at bs (view d)) out 0 1 1 = out-is ∙ rw one in
      let first : x ≡ coming_at bs (view d) 0 =
      e ∙ ap (λ (l : List ℤ). get_or l 0 (pos 0)) stored ∙ written_at (coming_at bs (view d)) out 0 1 1 0 (pos 0) (omega arith) (omega arith) room in
      record { told = rw (f, first); left = rw f (state-is ∙ rw (groups_one d.frame.channels channels, one)) }

-- what is found, as an item
abbrev pub item_from : Result (Option FrameFacts) Refusal → Result (Option QoaItem) Refusal
item_from (Ok f) = Ok (item_in f)
item_from (Err r) = Err r

-- the same answer, told of a found frame and of an item
found_told : (a : Result (Option FrameFacts) Refusal) (o : Option' ℕ) (f : Option FrameFacts) → told a ≡ unless o (good f) → told (item_from a) ≡ unless o (good (item_in f))
found_told (Ok x) none f e = ap {B = Answer (Option QoaItem)} good (ap item_in (good_same x f e))
found_told (Ok x) (some n) f e = never x n e
found_told (Err r) none f e = never f (number_of r) (sym e)
found_told (Err r) (some n) f e = ap {B = Answer (Option QoaItem)} refused (refused_one (number_of r) n e)

module _ (bs : List ℕ) (d : QoaDecoder) where
  pub next_turn : (r : Done (Result (Option FrameFacts) Refusal) QoaDecoder) (i : Result (Option QoaItem) Refusal) → item_from r.answer ≡ i → EnterDone bs d (settled (view d)) r → TurnDone from_next bs d (record { answer = i; state = r.state })
  unfolding enter_rules found_at entered_or
  next_turn r i e done = rw (← e) (record { told = found_told r.answer (first_of (enter_rules bs (settled (view d)))) (found_at bs (settled (view d))) done.told; left = done.left })

-- ---- the call

module _ (bs : List ℕ) (d : QoaDecoder) (r : Done (Result (Option QoaItem) Refusal) QoaDecoder) where
  pub item_bad : good_state (view d) (length bs) ≡ false → r.answer ≡ Err BadState → r.state ≡ d → ItemDone bs d r
  unfolding item_rules
  item_bad e item state =
      let f : first_of (item_rules bs (view d)) ≡ some 8 = fires 0 (item_rules bs (view d)) 8 (rw e (tt, refl)) in
      record { told = rw (f, item); left = rw f state }

  pub item_turn : (t : Turn) → good_state (view d) (length bs) ≡ true → turn_of (view d) ≡ t → TurnDone t bs d r → ItemDone bs d r
  unfolding item_rules item_of item_after first_of
  item_turn t e turn done = record { told = rw (e, turn) done.told; left = rw (e, turn) done.left }
