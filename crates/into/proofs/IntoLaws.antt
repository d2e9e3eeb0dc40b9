-- Each way out of decode_into keeps its promise. Assumes nothing.
use mathlib.Core.Path.{◌≡◌, refl, ap, sym, ◌∙◌}
use mathlib.Core.Bool.{true, false}
use mathlib.Core.List.{List}
use mathlib.Core.Option.{none, some}
use Prim.Native.Nat.{ℕ, ◌+◌, ◌-◌, ◌*◌, ◌≤◌, ◌<◌}
use native.Mathlib.Omega.{arith}
use lib.IntN.{ℤ, pos}
use lib.ListN.{get_or, length}
use Rattle.std.specs.Prelude.{Result, Ok, Err}
use Rattle.refusal.specs.Rules.{Rule, first_of}
use Rattle.word.specs.Parts.{written}
use Rattle.refusal.specs.Lent.{laid_over}
use Rattle.refusal.proofs.Rules.{fires, none_fires}
use Rattle.refusal.proofs.Lents.{over_written}
use Rattle.word.proofs.Writes.{written_ext}
use Rattle.word.proofs.Tests.{tests}
use Rattle.refusal.specs.declared.Refusal.TheVariants.{BadState, Truncated}
use Rattle.state.specs.View.{view, waiting, flagged}
use Rattle.state.specs.States.{good_state}
use Rattle.state.specs.declared.QoaDecoder.{QoaDecoder}
use Rattle.state.proofs.GoodStates.{good_facts}
use Rattle.into.specs.Into.{IntoDone, coming_at, groups_end, groups_for, into_after, into_count, into_groups, into_rules, taken_from}
use Rattle.refusal.specs.declared.Done.{Done}
use Rattle.refusal.specs.declared.Refusal.{Refusal}
use Rattle.into.proofs.Counts.{groups_none}
use Rattle.into.proofs.Coming.{coming_pending}
use Rattle.into.proofs.Taken.{taken_given}

module _ (bs : List ℕ) (d : QoaDecoder) (out : List ℤ) where
  abbrev rules : List Rule
  rules = into_rules bs (view d) (length out)

  first_bad : good_state (view d) (length bs) ≡ false → first_of rules ≡ some 8
  unfolding into_rules
  first_bad e = fires 0 rules 8 (rw e (tt, refl))

  first_cut : good_state (view d) (length bs) ≡ true → length bs < groups_end (view d) (into_groups (view d) (length out)) → first_of rules ≡ some 5
  unfolding into_rules
  first_cut e cut = fires 1 rules 5 (rw e (tt, (omega (arith, tests), refl)))

  pub first_none : good_state (view d) (length bs) ≡ true → groups_end (view d) (into_groups (view d) (length out)) ≤ length bs → first_of rules ≡ none
  unfolding into_rules
  first_none e whole = none_fires rules (rw e (tt, (omega (arith, tests), tt)))

  -- 8
  pub into_bad : (r : Done (Result ℕ Refusal) QoaDecoder) → good_state (view d) (length bs) ≡ false → r.answer ≡ Err BadState → r.state ≡ d → IntoDone bs d out r out
  unfolding laid_over
  into_bad r e answer state = let f = first_bad e in record { told = rw (f, answer); left = rw f state; stored = rw f }

  into_good : (r : Done (Result ℕ Refusal) QoaDecoder) (out' : List ℤ) → good_state (view d) (length bs) ≡ true → groups_end (view d) (into_groups (view d) (length out)) ≤ length bs
      → r.answer ≡ Ok (into_count (view d) (length out)) → view r.state ≡ into_after bs (view d) (length out)
      → out' ≡ written (coming_at bs (view d)) out 0 1 (into_count (view d) (length out)) → IntoDone bs d out r out'
  into_good r out' e whole answer state stored = let f = first_none e whole in record { told = rw (f, answer); left = rw f state; stored = rw f (stored ∙ over_written out (coming_at bs (view d)) 0 (into_count (view d) (length out)) (omega arith)) }

  -- a call that the pending samples satisfy
  pub into_pending : (count : ℕ) (state : QoaDecoder) (out' : List ℤ) → good_state (view d) (length bs) ≡ true → count ≡ into_count (view d) (length out) → count ≤ waiting (view d)
      → view state ≡ flagged true (taken_from bs (view d) 0 count) → out' ≡ written (λ i. get_or d.pending (d.next + i) (pos 0)) out 0 1 count
      → IntoDone bs d out (record { answer = Ok count; state = state }) out'
  unfolding view
  into_pending count state out' e count_is le state-is out-is =
      let none_left : into_count (view d) (length out) - waiting (view d) ≡ 0 = rw (← count_is) (omega arith) in
      let no-group : into_groups (view d) (length out) ≡ 0 = ap (groups_for d.frame.channels) none_left ∙ groups_none d.frame.channels in
      let place = (good_facts (view d) (length bs) e).place in
      into_good (record { answer = Ok count; state = state }) out' e (rw no-group (omega arith)) (ap (λ (n : ℕ). Ok n) count_is) (state-is ∙ taken_given bs (view d) 0 count ∙ rw (no-group, ← count_is))
      (out-is ∙ written_ext (λ i. get_or d.pending (d.next + i) (pos 0)) out 0 1 (coming_at bs (view d)) count (λ i h. sym (coming_pending bs d i (omega arith))) ∙ rw count_is)

  -- a call that needs more: 5, or the samples
  module _ (count more groups : ℕ) (e : good_state (view d) (length bs) ≡ true) (count_is : count ≡ into_count (view d) (length out))
      (more-is : more ≡ count - waiting (view d)) (groups-is : groups ≡ groups_for d.frame.channels more) where
    needed : groups ≡ into_groups (view d) (length out)
    unfolding view
    needed = groups-is ∙ ap (groups_for d.frame.channels) (more-is ∙ rw count_is)

    pub into_cut : (r : Done (Result ℕ Refusal) QoaDecoder) → length bs < d.at + 8 * (groups * d.frame.channels) → r.answer ≡ Err Truncated → r.state ≡ d → IntoDone bs d out r out
    unfolding view laid_over
    into_cut r cut answer state = let f = first_cut e (rw (← needed) cut) in record { told = rw (f, answer); left = rw f state; stored = rw f }

    pub into_more : (state : QoaDecoder) (out' : List ℤ) → waiting (view d) ≤ count → d.at + 8 * (groups * d.frame.channels) ≤ length bs
        → view state ≡ taken_from bs (view d) groups (waiting (view d) + more) → out' ≡ written (coming_at bs (view d)) out 0 1 (waiting (view d) + more)
        → IntoDone bs d out (record { answer = Ok count; state = state }) out'
    unfolding view
    into_more state out' le whole state-is out-is =
        let all : waiting (view d) + more ≡ into_count (view d) (length out) = (let sum : waiting (view d) + more ≡ count = omega (arith, more-is) in sum) ∙ count_is in
        into_good (record { answer = Ok count; state = state }) out' e (rw (← needed) whole) (ap (λ (n : ℕ). Ok n) count_is) (state-is ∙ rw (all, needed)) (out-is ∙ rw all)
