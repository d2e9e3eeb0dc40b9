-- Writer and reader: decoding the chosen slice from the same predictor gives the writer's reconstruction and, of a full slice, the same predictor.
-- Assumes nothing.
use Prim.Native.Nat.{ℕ, zero, suc, ◌≤◌, ◌<◌}
use mathlib.Core.Path.{◌≡◌, refl, ap, ap₂, sym, ◌∙◌}
use mathlib.Core.List.{List}
use native.Mathlib.Omega.{arith}
use lib.IntN.{ℤ}
use lib.ListN.{length, get_or, take}
use lib.Seq.{take_all}
use Rattle.lms.specs.Predictor.{at}
use Rattle.lms.specs.declared.QoaLms.{QoaLms}
use Rattle.scale.specs.Tables.{row_of}
use Rattle.slice.specs.Slice.{residual_at, sample_at, state_after}
use Rattle.trial.specs.Trial.{heard}
use Rattle.trial.specs.declared.Heard.{Heard}
use Rattle.search.specs.Search.{encoded_slice}
use Rattle.search.specs.Reconstruction.{lms_tried, sums_tried, reconstructed, state_tried}
use Rattle.search.proofs.Runs.{codes_tried, run_heard}
use Rattle.search.proofs.Slices.{encoded_code, encoded_lms, encoded_scale}

module _ (lms : QoaLms) (xs : List ℤ) (some : 0 < length xs) (few : length xs ≤ 20) where
  abbrev word : ℕ
  word = (encoded_slice lms xs).word

  abbrev sf : ℕ
  sf = (encoded_slice lms xs).sf

  residual : (i : ℕ) → i < length xs → residual_at word i ≡ at (row_of sf) (get_or (codes_tried sf lms xs) i 0)
  residual i h = rw (encoded_scale lms xs some few, encoded_code lms xs some few i h)

  heard_next : (i : ℕ) → i < length xs → state_after word lms i ≡ lms_tried sf lms (take i xs)
      → heard (state_after word lms i) (residual_at word i) ≡ record { sample = at (sums_tried sf lms xs) i; lms = lms_tried sf lms (take (suc i) xs) }
  heard_next i h before = ap₂ heard before (residual i h) ∙ sym (run_heard sf lms xs i h)

  -- the predictor before each of the slice's samples is the run's own
  pub heard_state : (n : ℕ) → n ≤ length xs → state_after word lms n ≡ lms_tried sf lms (take n xs)
  unfolding state_after lms_tried
  heard_state zero h = refl
  heard_state (suc n) h = ap (λ (r : Heard). r.lms) (heard_next n h (heard_state n (omega arith)))

  -- its samples are the writer's reconstruction
  pub heard_sample : (i : ℕ) → i < length xs → sample_at word lms i ≡ at (reconstructed lms xs) i
  unfolding sample_at reconstructed encoded_slice
  heard_sample i h = ap (λ (r : Heard). r.sample) (heard_next i h (heard_state i (omega arith)))

  -- and after a full slice the predictor is the writer's
  pub heard_full : length xs ≡ 20 → state_after word lms 20 ≡ (encoded_slice lms xs).lms
  unfolding state_tried encoded_slice
  heard_full full = heard_state 20 (omega arith) ∙ ap (lms_tried sf lms) (take_all 20 xs (omega arith)) ∙ sym (encoded_lms lms xs some)
