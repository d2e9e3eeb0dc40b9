-- `block::kept_predictors::read_predictors` meets its contract. The invariant: the predictors passed are stored. Assumes nothing.
use Rattle.std.proofs.Common.{◌≡◌, ◌∙◌, ℕ, ◌+◌, ◌*◌, List, replicate, refl, ap, arith, add-one, length-take}
use native.Mathlib.Nat.{mul-one, zero-add}
use Rattle.word.specs.Parts.{written}
use Rattle.word.proofs.Writes.{written_part}
use Rattle.word.specs.Table.{table}
use Rattle.format.specs.Format.{max_channels}
use Rattle.format.specs.Predictor.{lms_of}
use Rattle.lms.specs.Predictor.{zero_lms}
use Rattle.lms.specs.declared.QoaLms.{QoaLms}
use Rattle.state.proofs.Views.{stored_lms}
use Rattle.block.specs.Predictors.{predictor_in, predictors_in}
use Rattle.block.proofs.kept_predictors.read_predictors.Goals as goal

pub loop-j-init : goal.loop-j-init
unfolding written
loop-j-init c = refl

pub loop-j-preserved : goal.loop-j-preserved
unfolding written
loop-j-preserved c = rw (c.loop-j.invariant, c.read_predictor.ensures, add-one, zero-add, mul-one)

pub returns : goal.returns
unfolding predictors_in
returns c =
    let a = c.args in
    let zeros : List QoaLms = replicate max_channels zero_lms in
    let f : ℕ → QoaLms = λ j. predictor_in a.block.now (a.at + 32 * j) in
    let done : c.loop-j.j ≡ a.channels = omega (arith, length-take {A = QoaLms}) in
    rw (c.loop-j.invariant, done) (ap (λ (l : List QoaLms). table a.channels (lms_of l)) (written_part f zeros 0 _ a.channels refl (omega arith)) ∙ stored_lms f zeros a.channels (omega arith))
