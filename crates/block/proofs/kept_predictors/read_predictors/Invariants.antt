-- `block::kept_predictors::read_predictors` meets its contract. The invariant: the predictors passed are stored. Assumes nothing.
use Rattle.std.proofs.Common.{◌≡◌, ◌+◌, ◌*◌}
use Rattle.word.specs.Parts.{written}
use Rattle.block.specs.Predictors.{predictor_in}
use Rattle.block.proofs.kept_predictors.read_predictors.Given as goal

abbrev pub invariant-loop-j : goal.invariant-loop-j
invariant-loop-j l = l.lms-items ≡ written (λ k. predictor_in l.block (l.at + 32 * k)) l.initial.lms-items 0 1 l.j
