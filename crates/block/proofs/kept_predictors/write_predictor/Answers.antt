-- `block::kept_predictors::write_predictor` meets its contract. Assumes nothing.
use native.Mathlib.Omega.{arith}
use Prim.Native.Nat.{◌+◌}
use Rattle.refusal.proofs.Lents.{over_then}
use Rattle.block.specs.Predictors.{four_bytes, predictor_bytes}
use Rattle.block.proofs.Layouts.{length_four}
use Rattle.block.proofs.kept_predictors.write_predictor.Goals as goal

pub returns : goal.returns
unfolding predictor_bytes
returns c =
    rw (c.write_four-2.ensures, c.write_four.ensures)
    (over_then c.args.block.now c.args.at (c.args.at + 16) (four_bytes c.args.lms.history) (four_bytes c.args.lms.weights) (omega (arith, length_four c.args.lms.history)) (omega (arith, length_four c.args.lms.history)))
