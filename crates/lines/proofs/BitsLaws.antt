-- Signed numbers of 64 bits as their bits, by the sign. Assumes nothing.
use mathlib.Core.Path.{◌≡◌, ap, sym, subst}
use mathlib.Core.Bool.{true, false}
use Prim.Native.Nat.{suc, ◌-◌, ◌%◌, ◌^◌, ◌<◌}
use native.Mathlib.Nat.{mod-eq_of_lt, not-suc-le-zero}
use native.Mathlib.Omega.{arith}
use lib.Dec.{T, ltb→lt}
use lib.IntN.{ℤ, nat_abs, pos, negsuc, ◌-ℤ◌}
use lib.Signed.{lt_z, mag}
use Rattle.wrap.proofs.Integers.{sub_cases}
use Rattle.wrap.specs.Wrap.{modulo}

-- how far a number below zero is from -1
pub below_zero : (z : ℤ) → lt_z z (pos 0) ≡ true → negsuc 0 -ℤ z ≡ pos (mag z)
below_zero (pos n) e = absurd (not-suc-le-zero (ltb→lt n 0 (subst T (sym e) tt)))
below_zero (negsuc n) e = sub_cases (suc n) 1 (λ z. z ≡ pos n) (λ l. absurd (omega arith)) (λ l. ap pos (omega arith))

-- the bits of a number below zero, and of any other
pub bits_below : (z : ℤ) → lt_z z (pos 0) ≡ true → mag z < 2 ^ 63 → 0xffff_ffff_ffff_ffff - mag z ≡ modulo (2 ^ 64) z
unfolding modulo
bits_below (pos n) e h = absurd (not-suc-le-zero (ltb→lt n 0 (subst T (sym e) tt)))
bits_below (negsuc n) e h = let same : n % 18446744073709551616 ≡ n = mod-eq_of_lt (omega arith) in rw same

pub bits_above : (z : ℤ) → lt_z z (pos 0) ≡ false → mag z < 2 ^ 63 → nat_abs z ≡ modulo (2 ^ 64) z
unfolding modulo
bits_above (pos n) e h = sym (mod-eq_of_lt (omega arith))
bits_above (negsuc n) e h = absurd (subst T e tt)
