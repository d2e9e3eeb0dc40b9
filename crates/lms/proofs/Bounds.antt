-- The ranges of the definitions, which callers need for what the functions require.
-- Assumes nothing.
use Rattle.std.proofs.Common.{◌≡◌, ℕ, zero, suc, ◌+◌, ◌-◌, ◌^◌, ◌<◌, ◌≤◌, Bool, true, false, ltb, leb, length, ℤ, pos, negsuc, ◌+ℤ◌, ◌-ℤ◌, nat_abs, refl, ap, zero-le, le_trans, le_refl, add-le-add, arith, lit<, ltb→lt, leb→le, w16, SFits}
use lib.Signed.{lt_z, mag, shr_z}
use Rattle.wrap.specs.Wrap.{wrap32}
use Rattle.wrap.proofs.Elements.{everywhere}
use Rattle.wrap.proofs.Integers.{abs_add, abs_fits, abs_shift, abs_sub, mag_shift}
use Rattle.wrap.proofs.Modulo.{wrap32_fits}
use Rattle.lms.specs.Predictor.{above, at, clamp16, dot, new_lms, next_weight, penalty_of, pick, predicted, stepped, updated}
use Rattle.lms.specs.declared.QoaLms.{QoaLms}
use Rattle.lms.specs.Parts.{HistoryFits, WeightsWithin}

-- ---- prediction, penalty and reconstruction

pub predicted_small : (lms : QoaLms) → nat_abs (predicted lms) ≤ 2 ^ 18
unfolding predicted
predicted_small lms = abs_shift (wrap32 (dot lms.weights lms.history)) (2 ^ 13) (2 ^ 18) (lit< tt) (abs_fits (wrap32_fits (dot lms.weights lms.history)))

above_small : (z : ℤ) (k : ℕ) {m : ℕ} → mag z < m → above z k ≤ m - 1 - k
unfolding above
above_small (pos n) k h = omega arith
above_small (negsuc n) k h = zero-le

pub penalty_small : (lms : QoaLms) → penalty_of lms ≤ 5888
unfolding penalty_of
penalty_small lms =
    let squares = dot lms.weights lms.weights in
    above_small (shr_z (wrap32 squares) (2 ^ 18)) 2303 {m = 2 ^ 13} (omega (arith, mag_shift (wrap32 squares) (2 ^ 18), (wrap32_fits squares).sfits))

pub clamp16_fits : (z : ℤ) → SFits w16 (clamp16 z)
unfolding clamp16
clamp16_fits (pos n) = record { sfits = omega arith }
clamp16_fits (negsuc n) = record { sfits = omega arith }

-- a number of 16 bits is its own clamp
pub clamp16_kept : (z : ℤ) → mag z < 2 ^ 15 → z ≡ clamp16 z
unfolding clamp16
clamp16_kept (pos n) h = ap pos (omega arith)
clamp16_kept (negsuc n) h = ap negsuc (omega arith)

-- ---- a new predictor

pub new_within : WeightsWithin 16384 new_lms
unfolding new_lms
new_within = record { bound = λ i. leb→le _ _ (everywhere (λ z. leb (nat_abs z) 16384) (pos 0) new_lms.weights tt i) }

pub new_fits : HistoryFits new_lms
unfolding new_lms
new_fits = record { fit = λ i. record { sfits = ltb→lt _ _ (everywhere (λ z. ltb (mag z) (2 ^ 15)) (pos 0) new_lms.history tt i) } }

-- ---- an update: a weight moves by at most 896, and history stays in 16 bits

picked : (t : Bool) (w d : ℤ) → nat_abs (pick t (w -ℤ d) (w +ℤ d)) ≤ nat_abs w + nat_abs d
picked true w d = abs_sub w d
picked false w d = abs_add w d

step_bound : (lms : QoaLms) (residual : ℤ) (i : ℕ) → nat_abs residual ≤ 14336 → nat_abs (next_weight lms residual i) ≤ nat_abs (at lms.weights i) + 896
unfolding next_weight stepped
step_bound lms residual i h = le_trans (picked (lt_z (at lms.history i) (pos 0)) (at lms.weights i) (shr_z residual (2 ^ 4))) (add-le-add (le_refl (nat_abs (at lms.weights i))) (abs_shift residual 16 896 (lit< tt) h))

-- of each weight, and of the places past the fourth, where 0 is read
weight_bound_lem : (lms : QoaLms) (sample residual : ℤ) (i : ℕ) → nat_abs residual ≤ 14336 → nat_abs (at (updated lms sample residual).weights i) ≤ nat_abs (at lms.weights i) + 896
unfolding updated
weight_bound_lem lms sample residual zero h = step_bound lms residual 0 h
weight_bound_lem lms sample residual (suc zero) h = step_bound lms residual 1 h
weight_bound_lem lms sample residual (suc (suc zero)) h = step_bound lms residual 2 h
weight_bound_lem lms sample residual (suc (suc (suc zero))) h = step_bound lms residual 3 h
weight_bound_lem lms sample residual (suc (suc (suc (suc i)))) h = zero-le

pub update_within : {B : ℕ} {lms : QoaLms} (sample residual : ℤ) → nat_abs residual ≤ 14336 → WeightsWithin B lms → WeightsWithin (B + 896) (updated lms sample residual)
update_within {B} {lms} sample residual h w = record { bound = λ i. le_trans (weight_bound_lem lms sample residual i h) (add-le-add (w.bound i) (le_refl 896)) }

pub within_more : {B C : ℕ} {lms : QoaLms} → B ≤ C → WeightsWithin B lms → WeightsWithin C lms
within_more h w = record { bound = λ i. le_trans (w.bound i) h }

moved_fits : (lms : QoaLms) (sample residual : ℤ) → HistoryFits lms → SFits w16 sample → (i : ℕ) → SFits w16 (at (updated lms sample residual).history i)
unfolding updated
moved_fits lms sample residual f g zero = f.fit 1
moved_fits lms sample residual f g (suc zero) = f.fit 2
moved_fits lms sample residual f g (suc (suc zero)) = f.fit 3
moved_fits lms sample residual f g (suc (suc (suc zero))) = g
moved_fits lms sample residual f g (suc (suc (suc (suc i)))) = record { sfits = lit< tt }

pub update_fits : {lms : QoaLms} (sample residual : ℤ) → SFits w16 sample → HistoryFits lms → HistoryFits (updated lms sample residual)
update_fits {lms} sample residual g f = record { fit = moved_fits lms sample residual f g }

-- ---- both lists of an updated predictor have four numbers

pub update_lengths : (lms : QoaLms) (sample residual : ℤ) → (length (updated lms sample residual).history ≡ 4) × (length (updated lms sample residual).weights ≡ 4)
unfolding updated
update_lengths lms sample residual = (refl, refl)
