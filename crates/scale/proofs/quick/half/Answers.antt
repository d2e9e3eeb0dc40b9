-- `scale::half` meets its contract, by the sign of the residual.
-- Assumes nothing.
use Rattle.std.proofs.Common.{◌≡◌, true, false, T, ℤ, pos, negsuc, sym, refl, subst, not-suc-le-zero, ltb→lt, to_z-of_z}
use lib.Signed.{lt_z}
use Rattle.scale.specs.Parts.{half_of}
use Rattle.scale.proofs.quick.half.Goals as goal

below : (v : ℤ) → lt_z v (pos 0) ≡ true → 17 ≡ half_of v
unfolding half_of
below (pos n) e = absurd (not-suc-le-zero (ltb→lt n 0 (subst T (sym e) tt)))
below (negsuc n) e = refl

above : (v : ℤ) → lt_z v (pos 0) ≡ false → 0 ≡ half_of v
unfolding half_of
above (pos n) e = refl
above (negsuc n) e = absurd (subst T e tt)

pub returns-then-v-lt0 : goal.returns-then-v-lt0
returns-then-v-lt0 c = below c.args.v (rw (to_z-of_z c.ranges.v) at c.if-v-lt0.true)

pub returns-else-v-lt0 : goal.returns-else-v-lt0
returns-else-v-lt0 c = above c.args.v (rw (to_z-of_z c.ranges.v) at c.if-v-lt0.false)
