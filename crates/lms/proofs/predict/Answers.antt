-- `lms::predict` meets its contract: a shift of a number in range.
-- Assumes nothing.
use Rattle.std.proofs.Common.{◌^◌, ℤ, ap, ◌∙◌, w32}
use lib.Signed.{shr_z}
use Rattle.wrap.proofs.Integers.{fits_of, shift_back}
use Rattle.lms.specs.Predictor.{predicted}
use Rattle.lms.proofs.predict.Goals as goal

pub returns : goal.returns
unfolding predicted
returns c = shift_back (2 ^ 13) (fits_of w32 c.wrapped_dot.result c.wrapped_dot.type_inv) ∙ ap (λ (z : ℤ). shr_z z (2 ^ 13)) c.wrapped_dot.ensures
