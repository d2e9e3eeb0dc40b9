-- `ahead::clamped_ahead` meets its contract: a sum past an end is past the end on the prediction's side, since a table value is small.
-- Assumes nothing.
use Rattle.std.proofs.Common.{◌≡◌, ◌≤◌, Bool, true, false, ltb, ℤ, pos, negsuc, ◌+ℤ◌, nat_abs, refl, sym, ap, ◌∙◌, arith, to_z-of_z, w32, ltb-true}
use Rattle.std.proofs.lemmas.Int.{ints}
use lib.Signed.{lt_z, mag}
use Rattle.wrap.proofs.Integers.{reread, returned}
use Rattle.lms.specs.Predictor.{clamp16, pick, predicted}
use Rattle.lms.proofs.Bounds.{clamp16_kept}
use Rattle.ahead.proofs.clamped_ahead.Goals as goal
use Rattle.ahead.proofs.clamped_ahead.Goals.{After-sum_ahead-sum}

-- a sum past an end
past : (p r z : ℤ) → z ≡ p +ℤ r → nat_abs r ≤ 14336 → (b : Bool) → lt_z p (pos 0) ≡ b → ltb (mag z) 32768 ≡ false → pick b (negsuc 32767) (pos 32767) ≡ clamp16 z
unfolding clamp16
past p r (pos n) sum small true e far = absurd (grind (arith, ints))
past p r (negsuc n) sum small true e far = grind (arith, ints)
past p r (pos n) sum small false e far = grind (arith, ints)
past p r (negsuc n) sum small false e far = absurd (grind (arith, ints))

-- what `sum_ahead` returned
sum_is : (c : After-sum_ahead-sum) → reread w32 c.sum_ahead-sum.result ≡ predicted c.args.a.lms +ℤ c.args.residual
sum_is c =
    returned w32 c.sum_ahead-sum.result c.sum_ahead-sum.type_inv (c.sum_ahead-sum.ensures ∙ ap (λ (v : ℤ). predicted c.args.a.lms +ℤ v) (to_z-of_z c.ranges.residual))

pub returns-then-is_short : goal.returns-then-is_short
returns-then-is_short c =
    let sum = sum_is (goal.at.returns-then-is_short c).After-sum_ahead-sum in
    let short = ltb-true _ _ (sym (rw sum at c.is_short.ensures) ∙ c.if-is_short.true) in
    sum ∙ clamp16_kept _ short

pub returns-else-is_short : goal.returns-else-is_short
returns-else-is_short c =
    let far = sym (rw (sum_is (goal.at.returns-else-is_short c).After-sum_ahead-sum) at c.is_short.ensures) ∙ c.if-is_short.false in
    let here = returned w32 c.expect.result c.expect.type_inv c.expect.ensures in
    returned w32 c.end_of-end.result c.end_of-end.type_inv (c.end_of-end.ensures ∙ ap (λ (p : ℤ). pick (lt_z p (pos 0)) (negsuc 32767) (pos 32767)) here)
    ∙ past (predicted c.args.a.lms) c.args.residual _ refl c.requires _ refl far
