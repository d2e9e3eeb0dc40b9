-- What the parts of the code ask and answer. Assumes nothing.
use Rattle.std.specs.Prelude.{ℕ, ◌≤◌, List, ℤ, ◌+ℤ◌, ◌*ℤ◌, FitsSigned, unsigned_abs}
use Rattle.std.specs.Int.{w16}
use Rattle.lms.specs.Predictor.{at}
use Rattle.lms.specs.declared.QoaLms.{QoaLms}

-- the sum of the three older products
unfoldable pub older_dot : List ℤ → List ℤ → ℤ
older_dot a b = at a 0 *ℤ at b 0 +ℤ at a 1 *ℤ at b 1 +ℤ at a 2 *ℤ at b 2

-- every weight is at most B in magnitude
pub record WeightsWithin (B : ℕ) (lms : QoaLms) : Type 0 where
  pub bound : (i : ℕ) → unsigned_abs (at lms.weights i) ≤ B

-- every history number is one of 16 bits
pub record HistoryFits (lms : QoaLms) : Type 0 where
  pub fit : (i : ℕ) → FitsSigned w16 (at lms.history i)
