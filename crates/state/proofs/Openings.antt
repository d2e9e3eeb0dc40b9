-- Laws of opening: which rule decides, and the state that is left. Assumes nothing.
use Prim.Native.Nat.{ℕ, ◌+◌, ◌-◌, ◌*◌, ◌≤◌, ◌<◌}
use mathlib.Core.Path.{◌≡◌, sym, ◌∙◌, refl}
use mathlib.Core.Bool.{false, cond}
use mathlib.Core.List.{List, [], ◌∷◌}
use mathlib.Core.Option.{none, some}
use native.Mathlib.Omega.{arith}
use borrow.Author.Tests.{eq-eqb, ne_eqb}
use lib.Dec.{ltb}
use lib.IntN.{ℤ}
use lib.ListN.{length}
use Rattle.refusal.specs.Rules.{Rule, good, refused, ◌gives◌, first_of}
use Rattle.word.specs.Table.{table}
use Rattle.refusal.proofs.Rules.{after_good, after_refused, fires, fires_left, fires_right, good_same, none_fires, quiet}
use Rattle.word.proofs.Tests.{tests}
use Rattle.format.specs.FileHeader.{file_rules, is_fixed, total_of}
use Rattle.format.specs.Format.{max_channels, state_end}
use Rattle.format.specs.Header.{header_at, left_at}
use Rattle.format.specs.Checks.{frame_rules}
use Rattle.format.specs.Predictor.{lms_at}
use Rattle.refusal.specs.Refusals.{told_refusal, number_of}
use Rattle.format.specs.declared.frame.FrameHeader.{FrameHeader}
use Rattle.format.specs.declared.checks.Kind.TheVariants.{Any}
use Rattle.refusal.specs.declared.Refusal.{Refusal}
use Rattle.format.proofs.Checking.{checks}
use Rattle.lms.specs.declared.QoaLms.{QoaLms}
use Rattle.state.specs.View.{facts_in, none_pending, view, view_of}
use Rattle.state.specs.Opening.{OpenLeaves, first_rules, open_rules, opened_at, opened_fixed, opened_stream, zero_state}
use Rattle.state.specs.declared.QoaDecoder.{QoaDecoder}
use Rattle.state.specs.declared.ProcessingMode.TheVariants.{FixedSamples}
use Rattle.std.specs.Prelude.{Result, Ok, Err}
use Rattle.state.proofs.Views.{stored_lms}
use Rattle.word.specs.Parts.{written}
use Rattle.format.specs.Parts.{file_header}

-- ---- the first frame

module _ (bs : List ℕ) where
  abbrev first : FrameHeader
  first = header_at bs 8

  pub no_first : length bs - 8 < 8 → first_of (first_rules bs) ≡ some 2
  no_first h = fires 0 (first_rules bs) 2 (omega (arith, tests))

  pub long_first : 8 ≤ length bs - 8 → first_of (first_rules bs) ≡ first_of (frame_rules Any first (state_end first.channels) (left_at bs 8))
  long_first h =
      let some_left : List Rule = (ltb (left_at bs 8) 8 gives 2) ∷ [] in
      fires_right some_left (frame_rules Any first (state_end first.channels) (left_at bs 8)) (none_fires some_left (omega (arith, tests)))

  -- what quiet rules say
  pub first_facts : first_of (first_rules bs) ≡ none → (first.channels ≤ max_channels) × (8 + state_end first.channels ≤ length bs)
  unfolding state_end
  first_facts e =
      let k = checks Any first (state_end first.channels) (left_at bs 8) (quiet (first_rules bs) e).1 in
      (k.header.few_channels, omega (arith, k.there))

  -- ---- the whole call

  pub file_refused : (n : ℕ) → file_header bs ≡ refused n → first_of (open_rules bs) ≡ some n
  unfolding file_header open_rules
  file_refused n e = fires_left (file_rules bs) (cond (is_fixed (total_of bs)) (first_rules bs) []) n (after_refused (file_rules bs) (total_of bs) n e)

  pub file_total : (n : ℕ) → file_header bs ≡ good n → total_of bs ≡ n
  unfolding file_header
  file_total n e = good_same (total_of bs) n (after_good (file_rules bs) (good (total_of bs)) n e).1

  file_good : (n : ℕ) → file_header bs ≡ good n → first_of (open_rules bs) ≡ first_of (cond (is_fixed (total_of bs)) (first_rules bs) [])
  unfolding file_header open_rules
  file_good n e = fires_right (file_rules bs) (cond (is_fixed (total_of bs)) (first_rules bs) []) (none_fires (file_rules bs) (after_good (file_rules bs) (good (total_of bs)) n e).0)

  pub stream_rules : file_header bs ≡ good 0 → (first_of (open_rules bs) ≡ none) × (opened_at bs ≡ opened_stream)
  unfolding opened_at first_of
  stream_rules e =
      let stream = eq-eqb (total_of bs) 0 (file_total 0 e) in
      (file_good 0 e ∙ rw stream, rw stream)

  pub fixed_rules : (n : ℕ) → file_header bs ≡ good n → (n ≡ 0 → ⊥) → (first_of (open_rules bs) ≡ first_of (first_rules bs)) × (opened_at bs ≡ opened_fixed bs)
  unfolding opened_at
  fixed_rules n e not-zero =
      let fixed = ne_eqb (total_of bs) 0 (λ zero. not-zero (sym (file_total n e) ∙ zero)) in
      (file_good n e ∙ rw fixed, rw fixed)

  -- the view of a state at the first frame's slices
  pub fixed_view : (total : ℕ) (h : FrameHeader) (states : List QoaLms) (pending : List ℤ) → total ≡ total_of bs → h ≡ first → h.channels ≤ length states
      → view (record {
        mode = FixedSamples total h.channels h.rate;
        at = 8 + state_end h.channels;
        frame = facts_in h;
        remaining = h.samples;
        next = 0;
        end = 0;
        given = false;
        lms = written (λ j. lms_at bs (16 + 16 * j)) states 0 1 h.channels;
        pending = pending;
      }) ≡ opened_fixed bs
  unfolding view opened_fixed table
  fixed_view total h states pending e f room =
      let lms = stored_lms (λ j. lms_at bs (16 + 16 * j)) states first.channels (rw f at room) in
      rw (e, f) (λ i. view_of (FixedSamples (total_of bs) first.channels first.rate) false (facts_in first) (8 + state_end first.channels) first.samples none_pending (lms i))

  -- what the contract says
  abbrev pub Opens : Result Unit Refusal → QoaDecoder → Type 0
  Opens a d = (told_refusal a ≡ first_of (open_rules bs)) × OpenLeaves (first_of (open_rules bs)) bs d

  pub opens_refused : (r : Refusal) (d : QoaDecoder) → first_of (open_rules bs) ≡ some (number_of r) → d ≡ zero_state → Opens (Err r) d
  opens_refused r d e z = rw e (refl, z)

  pub opens_good : (d : QoaDecoder) → first_of (open_rules bs) ≡ none → view d ≡ opened_at bs → Opens (Ok tt) d
  opens_good d e v = rw e (refl, v)
