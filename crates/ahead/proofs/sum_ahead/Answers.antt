-- `ahead::sum_ahead` meets its contract: the sum fits. Assumes nothing.
use Rattle.std.proofs.Common.{◌≡◌, ◌+ℤ◌, ◌∙◌, le_trans, add-le-add, lit<, to_z-of_z, w32}
use Rattle.wrap.proofs.Integers.{abs_add, fits_abs, reread, returned}
use Rattle.lms.specs.Predictor.{predicted}
use Rattle.lms.proofs.Bounds.{predicted_small}
use Rattle.ahead.proofs.sum_ahead.Goals as goal
use Rattle.ahead.proofs.sum_ahead.Goals.{After-expect}

sum_is : (c : After-expect) → reread w32 c.expect.result +ℤ reread w32 c.args.residual ≡ predicted c.args.a.lms +ℤ c.args.residual
sum_is c = rw (returned w32 c.expect.result c.expect.type_inv c.expect.ensures, to_z-of_z c.ranges.residual)

pub overflow_add-result : goal.overflow_add-result
overflow_add-result c = rw (sum_is c) (fits_abs _ (le_trans (abs_add (predicted c.args.a.lms) c.args.residual) (add-le-add (predicted_small c.args.a.lms) c.requires)) (lit< tt))

pub returns : goal.returns
returns c = to_z-of_z (overflow_add-result c) ∙ sum_is c
