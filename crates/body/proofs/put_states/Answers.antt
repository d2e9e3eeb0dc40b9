-- `body::put_states` meets its contract. The invariant: the first `j` predictors are stored. Assumes nothing.
use mathlib.Core.Path.{◌≡◌, refl, sym}
use Prim.Native.Nat.{◌+◌, ◌*◌, ◌<◌}
use native.Mathlib.Numerals.{add-one}
use native.Mathlib.Omega.{arith}
use lib.ListN.{length, take}
use Rattle.std.proofs.Common.{get_or-take, length-take-le}
use Rattle.format.specs.Predictor.{lms_of, no_lms}
use Rattle.body.specs.Laid.{laid}
use Rattle.body.proofs.Laids.{length_lms, next_block, over_lms}
use Rattle.refusal.proofs.Lents.{over_nil}
use Rattle.body.proofs.put_states.Invariants.{stored}
use Rattle.body.proofs.put_states.Goals as goal
use Rattle.body.proofs.put_states.Goals.{At-loop-j}

pub loop-j-init : goal.loop-j-init
unfolding laid
loop-j-init c = sym (over_nil _ _)

-- as many as there are channels
many : (c : At-loop-j) → length (take c.args.channels c.args.states) ≡ c.args.channels
many c = length-take-le c.args.channels c.args.states (omega arith)

pub loop-j-preserved : goal.loop-j-preserved
loop-j-preserved c =
    let args = c.args in
    let j = c.loop-j.j in
    let below : j < args.channels = omega (arith, many (goal.at.loop-j-preserved c).At-loop-j) in
    rw (c.write_lms.ensures, get_or-take args.channels args.states j no_lms below, add-one, over_lms c.loop-j.out (args.at + 16 * j) (lms_of args.states j) (omega (arith, c.loop-j.auto.out, below)), c.loop-j.invariant)
    (next_block 16 (stored args.states) (λ k. length_lms (lms_of args.states k)) args.out.now args.at j (args.at + 16 * j) refl (omega (arith, below)))
