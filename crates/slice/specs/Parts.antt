-- What the parts of the code ask and answer. Assumes nothing.
use Rattle.std.specs.Prelude.{◌≡◌, List, [], ℕ, ◌<◌, ℤ, get_or}
use Rattle.word.specs.Parts.{written}
use Rattle.ahead.specs.Parts.{gains_of}
use Rattle.lms.specs.Predictor.{at}
use Rattle.lms.specs.declared.QoaLms.{QoaLms}
use Rattle.slice.specs.Slice.{sample_at, state_after}

-- n samples are heard, and stored at start, start + stride, ..: from the predictor s to `after`, from the memory o to `out`
abbrev pub HeardTo : ℕ → QoaLms → List ℤ → ℕ → ℕ → ℕ → QoaLms → List ℤ → Type 0
HeardTo w s o start stride n after out = (after ≡ state_after w s n) × (out ≡ written (sample_at w s) o start stride n)

-- what a weight gains by each of a row's eight table values
abbrev pub GainsOf : List (List ℤ) → List ℤ → Type 0
GainsOf gains row = (code : ℕ) → code < 8 → get_or gains code [] ≡ gains_of (at row code)
