-- The predictor of a decoding loop, and what its weights gain. Assumes nothing.
use Rattle.std.specs.Prelude.{ℕ, ◌^◌, ◌≤◌, cond, List, [], ◌∷◌, ℤ, nat_abs, neg_ℤ, pos, ◌+ℤ◌}
use Rattle.std.specs.Int.Signed.{lt_z, shr_z}
use Rattle.lms.specs.Predictor.{at}
use Rattle.lms.specs.declared.QoaLms.{QoaLms}

-- what a weight gains by a table value: a sixteenth of it, rounded down, and the negative of that where its history is negative
abbrev pub gains_of : ℤ → List ℤ
gains_of residual = shr_z residual (2 ^ 4) ∷ neg_ℤ (shr_z residual (2 ^ 4)) ∷ []

-- which of the two is a history number's
abbrev pub side_of : ℤ → ℕ
side_of history = cond (lt_z history (pos 0)) 1 0

-- a weight after its gain
unfoldable pub gained : ℤ → ℤ → List ℤ → ℤ
gained weight history gains = weight +ℤ at gains (side_of history)

-- the predictor after a sample: each weight gains, and history moves up one
unfoldable pub moved_by : QoaLms → ℤ → List ℤ → QoaLms
moved_by lms sample gains = record {
  history = at lms.history 1 ∷ at lms.history 2 ∷ at lms.history 3 ∷ sample ∷ [];
  weights = gained (at lms.weights 0) (at lms.history 0) gains ∷ gained (at lms.weights 1) (at lms.history 1) gains ∷ gained (at lms.weights 2) (at lms.history 2) gains ∷ gained (at lms.weights 3) (at lms.history 3) gains ∷ [];
}

-- no gain is more than the largest table value has
abbrev pub SmallGains : List ℤ → Type 0
SmallGains gains = (i : ℕ) → nat_abs (at gains i) ≤ 896
