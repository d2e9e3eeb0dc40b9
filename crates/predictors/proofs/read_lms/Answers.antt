-- `predictors::read_lms` meets its contract. Assumes nothing.
use mathlib.Core.Path.{ap, ◌∙◌}
use Rattle.format.specs.Predictor.{lms_at}
use Rattle.word.proofs.Fields.{AreBytes}
use Rattle.predictors.proofs.Predictors.{four_of_bytes}
use Rattle.format.specs.Parts.{four_of}
use Rattle.predictors.proofs.read_lms.Goals as goal

pub returns : goal.returns
unfolding lms_at
returns c =
    let bytes : AreBytes c.args.bytes.now = λ i. (c.type_inv.bytes i).fits in
    let history = c.four_of-history.ensures ∙ ap four_of c.read_be.ensures ∙ four_of_bytes _ _ bytes in
    let weights = c.four_of-weights.ensures ∙ ap four_of c.read_be-2.ensures ∙ four_of_bytes _ _ bytes in
    λ j. record { history = history j; weights = weights j }
