-- `lms::new_lms` meets its contract: the numbers are the definition's.
-- Assumes nothing.
use Rattle.std.proofs.Common.{refl}
use Rattle.lms.specs.Predictor.{new_lms}
use Rattle.lms.proofs.new_lms.Goals as goal

pub returns : goal.returns
unfolding new_lms
returns c = refl
