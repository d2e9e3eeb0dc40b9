-- `block::kept_predictors::write_predictors` meets its contract. The invariant: the first `j` predictors are stored. Assumes nothing.
use mathlib.Core.Path.{◌≡◌, refl, sym}
use Prim.Native.Nat.{◌+◌, ◌*◌}
use native.Mathlib.Numerals.{add-one}
use native.Mathlib.Omega.{arith}
use lib.ListN.{length}
use Rattle.word.specs.Table.{table}
use Rattle.format.specs.Format.{max_channels}
use Rattle.format.specs.Predictor.{lms_of}
use Rattle.body.specs.Laid.{laid}
use Rattle.body.proofs.Laids.{length_blocks, next_block}
use Rattle.refusal.proofs.Lents.{over_nil}
use Rattle.block.specs.Predictors.{predictors_bytes}
use Rattle.block.proofs.Holding.{held_bytes}
use Rattle.block.proofs.Layouts.{length_predictor}
use Rattle.block.proofs.kept_predictors.write_predictors.Invariants.{stored}
use Rattle.block.proofs.kept_predictors.write_predictors.Goals as goal
use Rattle.block.proofs.kept_predictors.write_predictors.Goals.{At-loop-j}

-- as long as it was
long : (c : At-loop-j) → length c.loop-j.block ≡ length c.args.block.now
long c =
    let args = c.args in
    rw c.loop-j.invariant (length_blocks 32 (stored args.states args.channels) (λ k. length_predictor (lms_of (table args.channels (lms_of args.states)) k)) args.block.now args.at c.loop-j.j (omega arith))

pub loop-j-init : goal.loop-j-init
unfolding laid
loop-j-init c = sym (over_nil _ _)

pub loop-j-preserved : goal.loop-j-preserved
loop-j-preserved c =
    let args = c.args in
    let j = c.loop-j.j in
    rw (c.write_predictor.ensures, c.held.ensures, held_bytes args.states args.channels j, add-one, c.loop-j.invariant)
    (next_block 32 (stored args.states args.channels) (λ k. length_predictor (lms_of (table args.channels (lms_of args.states)) k)) args.block.now args.at j (args.at + 32 * j) refl (omega arith))

pub returns : goal.returns
unfolding predictors_bytes
returns c =
    let l = c.loop-j in
    let done : l.j ≡ max_channels = omega arith in
    rw done at l.invariant
