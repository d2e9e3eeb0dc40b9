-- What a weight gains by a table value is its step, so the predictor of a loop moves as the definition says. Assumes nothing.
use mathlib.Core.Path.{◌≡◌, refl}
use mathlib.Core.Bool.{Bool, true, false, cond}
use mathlib.Core.List.{[], ◌∷◌}
use Prim.Native.Nat.{ℕ, ◌^◌, ◌≤◌, zero, suc, zero-le}
use lib.Dec.{lit<}
use lib.IntN.{ℤ, nat_abs, neg_ℤ, pos, ◌+ℤ◌}
use lib.Signed.{lt_z, shr_z}
use Rattle.wrap.proofs.Integers.{abs_neg, abs_shift}
use Rattle.ahead.specs.Parts.{gained, gains_of, moved_by, SmallGains}
use Rattle.lms.specs.Predictor.{at, next_weight, pick, stepped, updated}
use Rattle.lms.specs.declared.QoaLms.{QoaLms}

either_way : (t : Bool) (w d : ℤ) → w +ℤ at (d ∷ neg_ℤ d ∷ []) (cond t 1 0) ≡ pick t (w +ℤ neg_ℤ d) (w +ℤ d)
either_way true w d = refl
either_way false w d = refl

gained_step : (lms : QoaLms) (residual : ℤ) (i : ℕ) → gained (at lms.weights i) (at lms.history i) (gains_of residual) ≡ next_weight lms residual i
unfolding gained next_weight stepped
gained_step lms residual i = either_way (lt_z (at lms.history i) (pos 0)) (at lms.weights i) (shr_z residual (2 ^ 4))

pub moved_updated : (lms : QoaLms) (sample residual : ℤ) → moved_by lms sample (gains_of residual) ≡ updated lms sample residual
unfolding moved_by updated
moved_updated lms sample residual = λ j. record {
  history = at lms.history 1 ∷ at lms.history 2 ∷ at lms.history 3 ∷ sample ∷ [];
  weights = gained_step lms residual 0 j ∷ gained_step lms residual 1 j ∷ gained_step lms residual 2 j ∷ gained_step lms residual 3 j ∷ [];
}

-- it moves a weight by at most 896
pub gains_small : (residual : ℤ) → nat_abs residual ≤ 14336 → SmallGains (gains_of residual)
gains_small residual h zero = abs_shift residual 16 896 (lit< tt) h
gains_small residual h (suc zero) = rw (abs_neg (shr_z residual 16)) (abs_shift residual 16 896 (lit< tt) h)
gains_small residual h (suc (suc i)) = zero-le
