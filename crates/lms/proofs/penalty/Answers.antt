-- `lms::penalty` meets its contract. The shift keeps the sum small, so the difference fits.
-- Assumes nothing.
use Rattle.std.proofs.Common.{◌≡◌, ℕ, ◌^◌, ℤ, pos, negsuc, ◌-ℤ◌, ap, ◌∙◌, le_trans, lit<, arith, to_z-of_z, w32, SFits, nat_abs, ◌≤◌, add-le-add, le_refl}
use Rattle.std.specs.Int.{int_max}
use Rattle.std.proofs.lemmas.Int.{ints, clamps}
use lib.Signed.{shr_z}
use Rattle.wrap.specs.Wrap.{wrap32}
use Rattle.wrap.proofs.Integers.{abs_fits, abs_shift, abs_sub, fits_abs, fits_of, shift_back}
use Rattle.wrap.proofs.Modulo.{wrap32_fits}
use Rattle.lms.specs.Predictor.{above, dot, penalty_of}
use Rattle.lms.proofs.penalty.Goals as goal

-- max(0, z - k)
above-max : (z : ℤ) (k : ℕ) → int_max (z -ℤ pos k) (pos 0) ≡ pos (above z k)
unfolding above
above-max (pos n) k = omega (arith, ints, clamps)
above-max (negsuc n) k = omega (arith, ints, clamps)

pub returns : goal.returns
unfolding penalty_of
returns c =
    let squares = dot c.args.lms.weights c.args.lms.weights in
    let z = shr_z (wrap32 squares) (2 ^ 18) in
    let held = shift_back (2 ^ 18) (fits_of w32 c.wrapped_dot-squares.result c.wrapped_dot-squares.type_inv) ∙ ap (λ (y : ℤ). shr_z y (2 ^ 18)) c.wrapped_dot-squares.ensures in
    let small : nat_abs z ≤ 2 ^ 13 = abs_shift (wrap32 squares) (2 ^ 18) (2 ^ 13) (lit< tt) (abs_fits (wrap32_fits squares)) in
    let fits : SFits w32 (z -ℤ pos 2303) = fits_abs _ (le_trans (abs_sub z (pos 2303)) (add-le-add small (le_refl 2303))) (lit< tt) in
    let value : c.max.result ≡ pos (above z 2303) = c.max.ensures.value ∙ rw (held, to_z-of_z fits) (above-max z 2303) in
    rw (to_z-of_z (fits_of w32 c.max.result c.max.type_inv), value)
