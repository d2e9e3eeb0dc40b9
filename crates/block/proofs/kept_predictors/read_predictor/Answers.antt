-- `block::kept_predictors::read_predictor` meets its contract. Assumes nothing.
use Rattle.block.specs.Predictors.{predictor_in}
use Rattle.block.proofs.kept_predictors.read_predictor.Goals as goal

pub returns : goal.returns
unfolding predictor_in
returns c = λ j. record { history = c.four_in-history.ensures j; weights = c.four_in-weights.ensures j }
