-- A state that opening hands back passes the state rules for the same bytes. Assumes nothing.
use Prim.Native.Nat.{ℕ, ◌+◌, ◌*◌, ◌≤◌, ◌<◌}
use mathlib.Core.Path.{◌≡◌, refl}
use mathlib.Core.Bool.{Bool, true, false, cond}
use mathlib.Core.List.{List, []}
use mathlib.Core.Option.{none}
use native.Mathlib.Omega.{arith}
use native.Mathlib.Nat.{le_refl, not-suc-le-zero}
use borrow.Author.Tests.{eqb-false, not-true}
use lib.Dec.{eqb, lit≤}
use lib.ListN.{length}
use Rattle.refusal.specs.Rules.{first_of}
use Rattle.word.specs.Table.{table}
use Rattle.refusal.proofs.Rules.{Quiet, none_fires, quiet, quiet_parts}
use Rattle.word.proofs.Tables.{get_or_table}
use Rattle.word.proofs.Tests.{tests}
use Rattle.lms.specs.Parts.{HistoryFits, WeightsWithin}
use Rattle.lms.proofs.Bounds.{within_more}
use Rattle.format.specs.FileHeader.{file_rules, is_fixed, total_of}
use Rattle.format.specs.Format.{state_end}
use Rattle.format.specs.Header.{header_at, left_at}
use Rattle.format.specs.Predictor.{lms_at, lms_of, no_lms}
use Rattle.word.proofs.Fields.{AreBytes}
use Rattle.format.specs.declared.checks.Kind.TheVariants.{Any}
use Rattle.format.proofs.Checking.{checks}
use Rattle.format.proofs.Headers.{header_small}
use Rattle.predictors.proofs.Predictors.{read_fits, read_within}
use Rattle.state.specs.States.{good_state, weight_bound}
use Rattle.state.specs.Opening.{first_rules, open_rules, opened_at, opened_fixed, opened_stream}
use Rattle.state.proofs.Bounds.{bound_least}
use Rattle.state.proofs.GoodStates.{Good, facts_good}
use Rattle.state.proofs.Openings.{first_facts}

-- predictors that were read from bytes are within any bound of the rules
pub read_good : (bs : List ℕ) (p c r j : ℕ) → AreBytes bs → j < c
    → HistoryFits (lms_of (table c (λ k. lms_at bs (p + 16 * k))) j) × WeightsWithin (weight_bound r) (lms_of (table c (λ k. lms_at bs (p + 16 * k))) j)
read_good bs p c r j bytes h =
    rw (get_or_table c (λ k. lms_at bs (p + 16 * k)) j no_lms h)
    (read_fits bs (p + 16 * j) bytes, within_more (bound_least r) (read_within bs (p + 16 * j) bytes))

module _ (bs : List ℕ) (bytes : AreBytes bs) where
  stream_good : 8 ≤ length bs → Good opened_stream (length bs)
  unfolding opened_stream
  stream_good long =
      record {
        place = long;
        mode_good = tt;
        few_channels = lit≤ tt;
        some_channels = λ h. h;
        within_frame = lit≤ tt;
        in_order = lit≤ tt;
        one_group = lit≤ tt;
        histories = λ j h. absurd (not-suc-le-zero h);
        weights = λ j h. absurd (not-suc-le-zero h);
      }

  fixed_good : 0 < total_of bs → first_of (first_rules bs) ≡ none → Good (opened_fixed bs) (length bs)
  unfolding opened_fixed
  fixed_good some_total e =
      let h = header_at bs 8 in
      let facts = first_facts bs e in
      let checked = (checks Any h (state_end h.channels) (left_at bs 8) (quiet (first_rules bs) e).1).header in
      let small = header_small bs 8 bytes in
      record {
        place = facts.1;
        mode_good = record { some_total = some_total; some_first = checked.some_channels; few_first = facts.0; some_rate = checked.some_rate; rate_small = omega (arith, small.rate_small) };
        few_channels = facts.0;
        some_channels = λ r. checked.some_channels;
        within_frame = le_refl h.samples;
        in_order = lit≤ tt;
        one_group = omega arith;
        histories = λ j l. (read_good bs 16 h.channels h.samples j bytes l).0;
        weights = λ j l. (read_good bs 16 h.channels h.samples j bytes l).1;
      }

  by_mode : (fixed : Bool) → is_fixed (total_of bs) ≡ fixed → 8 ≤ length bs → Quiet (cond fixed (first_rules bs) []) → Good (cond fixed (opened_fixed bs) opened_stream) (length bs)
  by_mode true e long q =
      let some : total_of bs ≡ 0 → ⊥ = eqb-false (total_of bs) 0 (not-true (eqb (total_of bs) 0) e) in
      fixed_good (omega arith) (none_fires (first_rules bs) q)
  by_mode false e long q = stream_good long

  pub opened_good : first_of (open_rules bs) ≡ none → good_state (opened_at bs) (length bs) ≡ true
  unfolding open_rules opened_at file_rules
  opened_good e =
      let parts = quiet_parts (file_rules bs) (cond (is_fixed (total_of bs)) (first_rules bs) []) (quiet (open_rules bs) e) in
      facts_good (opened_at bs) (length bs) (by_mode (is_fixed (total_of bs)) refl (omega (arith, tests)) parts.1)
