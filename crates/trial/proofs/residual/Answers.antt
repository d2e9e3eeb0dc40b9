-- `trial::residual` meets its contract: the difference from a prediction fits.
-- Assumes nothing.
use mathlib.Core.Path.{◌≡◌, ◌∙◌}
use native.Mathlib.Nat.{add-le-add, le_trans}
use lib.Dec.{lit<, lit≤}
use lib.IntN.{◌-ℤ◌}
use mir.Syntax.{w16, w32}
use mir.Facts.{to_z-of_z}
use Rattle.wrap.proofs.Integers.{abs_fits, abs_sub, fits_abs, reread, returned, widen_back}
use Rattle.lms.proofs.Bounds.{predicted_small}
use Rattle.lms.specs.Predictor.{predicted}
use Rattle.trial.proofs.residual.Goals as goal
use Rattle.trial.proofs.residual.Goals.{After-predict}

difference : (c : After-predict) → reread w32 (reread w16 c.args.sample) -ℤ reread w32 c.predict.result ≡ c.args.sample -ℤ predicted c.args.lms
difference c = rw (widen_back w32 c.ranges.sample (lit≤ tt), returned w32 c.predict.result c.predict.type_inv c.predict.ensures)

pub overflow_sub-result : goal.overflow_sub-result
overflow_sub-result c =
    rw (difference c) (fits_abs _ (le_trans (abs_sub c.args.sample (predicted c.args.lms)) (add-le-add (abs_fits c.ranges.sample) (predicted_small c.args.lms))) (lit< tt))

pub returns : goal.returns
returns c = to_z-of_z (overflow_sub-result c) ∙ difference c
