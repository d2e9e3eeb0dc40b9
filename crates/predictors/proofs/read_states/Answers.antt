-- `predictors::read_states` meets its contract. The invariant: the states passed are stored. Assumes nothing.
use Rattle.std.proofs.Common.{◌≡◌, ◌+◌, ◌*◌, refl, arith, add-one, length-take}
use native.Mathlib.Nat.{mul-one, zero-add}
use Rattle.word.specs.Parts.{written}
use Rattle.word.proofs.Writes.{written_part}
use Rattle.format.specs.Predictor.{lms_at}
use Rattle.lms.specs.declared.QoaLms.{QoaLms}
use Rattle.predictors.proofs.read_states.Goals as goal

pub loop-j-init : goal.loop-j-init
unfolding written
loop-j-init c = refl

pub loop-j-preserved : goal.loop-j-preserved
unfolding written
loop-j-preserved c = rw (c.loop-j.invariant, c.read_lms.ensures, add-one, zero-add, mul-one)

pub returns : goal.returns
returns c =
    let a = c.args in
    let done : c.loop-j.j ≡ a.channels = omega (arith, length-take {A = QoaLms}) in
    rw (c.loop-j.invariant, done) (written_part (λ j. lms_at a.bytes.now (a.at + 16 * j)) a.states 0 _ a.channels refl (omega arith))
