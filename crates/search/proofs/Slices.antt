-- The laws of a slice that the encoder makes, for the crates above.
-- Assumes nothing.
use Prim.Native.Nat.{ℕ, ◌+◌, ◌*◌, ◌^◌, ◌≤◌, ◌<◌}
use mathlib.Core.Path.{◌≡◌, ap}
use mathlib.Core.List.{List}
use native.Mathlib.Omega.{arith}
use lib.IntN.{ℤ}
use lib.ListN.{length, get_or}
use Rattle.word.specs.Word.{code_of, filled, scale_of}
use Rattle.word.proofs.Words.{code_of_filled, filled_lt, packed_lt, scale_of_filled}
use Rattle.lms.specs.Parts.{HistoryFits, WeightsWithin}
use Rattle.lms.specs.declared.QoaLms.{QoaLms}
use Rattle.lms.proofs.Bounds.{within_more}
use Rattle.search.specs.Candidate.{start_of}
use Rattle.search.specs.Search.{chosen, encoded_slice}
use Rattle.search.specs.Reconstruction.{reconstructed, state_tried}
use Rattle.search.specs.Parts.{SamplesFit}
use Rattle.search.proofs.Bounds.{Sized, sized_start}
use Rattle.search.proofs.Chosen.{found, trials_most}
use Rattle.search.proofs.Runs.{whole_sized, codes_tried, codes_small, run_packed, run_lms, sums_length, sums_fit, lms_fits}
use Rattle.word.specs.Parts.{packed}

module _ (lms : QoaLms) (xs : List ℤ) (some : 0 < length xs) where
  abbrev sf_of : ℕ
  sf_of = (chosen lms xs).sf

  -- the word of the chosen run: its scale factor, then its codes in order
  pub chosen_packed : (chosen lms xs).run.word ≡ packed sf_of (λ i. get_or (codes_tried sf_of lms xs) i 0) (length xs)
  chosen_packed = rw (found lms xs some).run_is (run_packed sf_of lms xs)

  pub chosen_lms : (chosen lms xs).run.lms ≡ state_tried lms xs
  unfolding state_tried start_of
  chosen_lms = rw (found lms xs some).run_is (run_lms sf_of (start_of lms sf_of) xs)

  pub chosen_word_lt : (chosen lms xs).run.word < 2 ^ (4 + 3 * length xs)
  chosen_word_lt = rw chosen_packed (packed_lt sf_of _ (length xs) (found lms xs some).small (λ i h. codes_small sf_of lms xs i))

  -- ---- the slice

  pub encoded_packed : (encoded_slice lms xs).word ≡ filled (length xs) (packed (encoded_slice lms xs).sf (λ i. get_or (codes_tried (encoded_slice lms xs).sf lms xs) i 0) (length xs))
  unfolding encoded_slice
  encoded_packed = ap (filled (length xs)) chosen_packed

  -- read back, the word's fields are the scale factor and the codes
  pub encoded_scale : length xs ≤ 20 → scale_of (encoded_slice lms xs).word ≡ (encoded_slice lms xs).sf
  unfolding encoded_slice
  encoded_scale few = rw chosen_packed (scale_of_filled sf_of _ (length xs) few (λ i h. codes_small sf_of lms xs i) (found lms xs some).small)

  pub encoded_code : length xs ≤ 20 → (i : ℕ) → i < length xs → code_of (encoded_slice lms xs).word i ≡ get_or (codes_tried (encoded_slice lms xs).sf lms xs) i 0
  unfolding encoded_slice
  encoded_code few i h = rw chosen_packed (code_of_filled sf_of _ (length xs) few (λ j l. codes_small sf_of lms xs j) i h)

  pub encoded_word_lt : length xs ≤ 20 → (encoded_slice lms xs).word < 2 ^ 64
  unfolding encoded_slice
  encoded_word_lt few = filled_lt (length xs) (chosen lms xs).run.word few chosen_word_lt

  pub encoded_sf_lt : (encoded_slice lms xs).sf < 16
  unfolding encoded_slice
  encoded_sf_lt = (found lms xs some).small

  pub encoded_lms : (encoded_slice lms xs).lms ≡ state_tried lms xs
  unfolding encoded_slice
  encoded_lms = chosen_lms

  pub encoded_trials_le : (encoded_slice lms xs).trials ≤ 16 * length xs
  unfolding encoded_slice
  encoded_trials_le = trials_most lms xs some

  -- in a slice of at most twenty samples weights move by at most 20 * 896
  pub encoded_within : {B : ℕ} → length xs ≤ 20 → WeightsWithin B lms → WeightsWithin (B + 17920) (encoded_slice lms xs).lms
  unfolding encoded_slice
  encoded_within {B} few w =
      let sized : Sized B (0 + length xs) (chosen lms xs).run = rw (found lms xs some).run_is (whole_sized sf_of 0 (start_of lms sf_of) xs (found lms xs some).small (sized_start sf_of (found lms xs some).small w)) in
      within_more (omega arith) sized.within

  pub encoded_fits : HistoryFits lms → HistoryFits (encoded_slice lms xs).lms
  unfolding state_tried
  encoded_fits h = rw encoded_lms (lms_fits sf_of lms xs h)

-- ---- the writer's reconstruction

pub reconstructed_length : (lms : QoaLms) (xs : List ℤ) → length (reconstructed lms xs) ≡ length xs
unfolding reconstructed
reconstructed_length lms xs = sums_length (chosen lms xs).sf lms xs

pub reconstructed_fits : (lms : QoaLms) (xs : List ℤ) → SamplesFit (reconstructed lms xs)
unfolding reconstructed
reconstructed_fits lms xs = record { fit = sums_fit (chosen lms xs).sf lms xs }
