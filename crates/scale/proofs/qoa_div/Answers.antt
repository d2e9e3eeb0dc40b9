-- `scale::qoa_div` meets its contract. The shift leaves 16 bits, so the two signs cannot take the sum out of range.
-- Assumes nothing.
use Rattle.std.proofs.Common.{◌≡◌, ℕ, zero, suc, ◌+◌, ◌^◌, ◌≤◌, ℤ, pos, negsuc, ◌+ℤ◌, ◌*ℤ◌, nat_abs, sym, ap, ◌∙◌, ap₂, refl, arith, zero-le, le_trans, le_refl, add-le-add, lit<, to_z-of_z, w32, to_z}
use lib.Signed.{shr_z}
use Rattle.std.specs.Int.{int_signum}
use Rattle.wrap.specs.Wrap.{low32, wrap32}
use Rattle.wrap.proofs.Integers.{abs_add, abs_fits, abs_shift, abs_sub, fits_abs, fits_of, reread, returned, shift_back}
use Rattle.wrap.proofs.Modulo.{add_low, modulo_pos, wrap32_fits}
use Rattle.scale.specs.Tables.{reciprocal_of}
use Rattle.scale.specs.Division.{divided_by, shifted, sign_of}
use Rattle.scale.proofs.qoa_div.Goals as goal
use Rattle.scale.proofs.qoa_div.Goals.{After-signum, After-signum-2, After-signed-n}

-- ---- ranges

sign_small : (z : ℤ) → nat_abs (sign_of z) ≤ 1
unfolding sign_of
sign_small (pos zero) = zero-le
sign_small (pos (suc n)) = le_refl 1
sign_small (negsuc n) = le_refl 1

shifted-small : (v : ℤ) (k : ℕ) → nat_abs (shifted v k) ≤ 2 ^ 15
unfolding shifted
shifted-small v k = abs_shift (wrap32 (v *ℤ pos (reciprocal_of k) +ℤ pos 32768)) (2 ^ 16) (2 ^ 15) (lit< tt) (abs_fits (wrap32_fits (v *ℤ pos (reciprocal_of k) +ℤ pos 32768)))

sum-small : (v : ℤ) (k : ℕ) → nat_abs (shifted v k +ℤ sign_of v) ≤ 2 ^ 15 + 1
sum-small v k = le_trans (abs_add (shifted v k) (sign_of v)) (add-le-add (shifted-small v k) (sign_small v))

-- the library's sign
signum_is : (z : ℤ) → int_signum z ≡ sign_of z
unfolding sign_of
signum_is (pos zero) = refl
signum_is (pos (suc n)) = ap pos (omega arith)
signum_is (negsuc n) = refl

-- ---- what the machine holds

n-is : (c : After-signed-n) → reread w32 (shr_z (reread w32 c.signed-n.result) (2 ^ 16)) ≡ shifted c.args.v c.args.sf
unfolding shifted
n-is c =
    let factor = returned w32 c.reciprocal.result c.reciprocal.type_inv c.reciprocal.ensures in
    let product = c.wrapping_mul-product.ensures ∙ ap₂ (λ (x y : ℤ). low32 (x *ℤ y)) (to_z-of_z c.ranges.v) factor in
    let sum = add_low 0xffff_ffff (c.args.v *ℤ pos (reciprocal_of c.args.sf)) (pos 32768) product (sym (modulo_pos 0xffff_ffff 32768 (lit< tt))) refl in
    shift_back (2 ^ 16) (fits_of w32 c.signed-n.result c.signed-n.type_inv) ∙ ap (λ (z : ℤ). shr_z z (2 ^ 16)) (c.signed-n.ensures ∙ ap (to_z w32) sum)

sign-is : (c : After-signum) → reread w32 c.signum.result ≡ sign_of c.args.v
sign-is c = returned w32 c.signum.result c.signum.type_inv c.signum.ensures.value ∙ ap int_signum (to_z-of_z c.ranges.v) ∙ signum_is c.args.v

sign2-is : (c : After-signum-2) → reread w32 c.signum-2.result ≡ sign_of (shifted c.args.v c.args.sf)
sign2-is c = returned w32 c.signum-2.result c.signum-2.type_inv c.signum-2.ensures.value ∙ ap int_signum (n-is c.before.before) ∙ signum_is (shifted c.args.v c.args.sf)

-- the sum, before the second sign is taken off
sum-is : (c : After-signum-2) → reread w32 (shr_z (reread w32 c.signed-n.result) (2 ^ 16)) +ℤ reread w32 c.signum.result ≡ shifted c.args.v c.args.sf +ℤ sign_of c.args.v
sum-is c = rw (n-is c.before.before, sign-is c.before) refl

sum-held : (c : After-signum-2) → reread w32 (reread w32 (shr_z (reread w32 c.signed-n.result) (2 ^ 16)) +ℤ reread w32 c.signum.result) ≡ shifted c.args.v c.args.sf +ℤ sign_of c.args.v
sum-held c = ap (reread w32) (sum-is c) ∙ to_z-of_z {w = w32} (fits_abs _ (sum-small c.args.v c.args.sf) (lit< tt))

pub overflow_sub-result : goal.overflow_sub-result
overflow_sub-result c =
    let p = goal.at.overflow_sub-result c in
    let second = shifted c.args.v c.args.sf in
    rw (sum-held p.After-signum-2, sign2-is p.After-signum-2)
    (fits_abs _ (le_trans (abs_sub (second +ℤ sign_of c.args.v) (sign_of second)) (add-le-add (sum-small c.args.v c.args.sf) (sign_small second))) (lit< tt))

pub returns : goal.returns
unfolding divided_by
returns c =
    let p = goal.at.returns c in
    to_z-of_z (overflow_sub-result c) ∙ rw (sum-held p.After-signum-2, sign2-is p.After-signum-2)
