-- `frames::run_groups` meets its contract. The loop's invariant: the predictors are those after `g` groups.
-- The measure is what is left of the groups. Assumes nothing.
use mathlib.Core.Path.{refl, sym, ◌∙◌}
use Prim.Native.Nat.{◌+◌, ◌*◌, ◌≤◌}
use native.Mathlib.Nat.{mul-le-mul_right}
use native.Mathlib.Omega.{arith}
use lib.Dec.{lit<, lit≤}
use lib.ListN.{length}
use Rattle.lms.proofs.Bounds.{within_more}
use Rattle.groups.proofs.GroupLaws.{groups_more}
use Rattle.groups.proofs.Growth.{groups_within}
use Rattle.into.proofs.Counts.{slices_one}
use Rattle.frames.proofs.FrameLaws.{groups_still}
use Rattle.frames.proofs.run_groups.Goals as goal
use Rattle.frames.proofs.run_groups.Goals.{In-loop-g}

pub loop-g-init : goal.loop-g-init
loop-g-init c =
    let args = c.args in
    (omega arith, sym (groups_still args.bytes.now args.at args.channels args.states), refl)

-- a turn's group is there
group-there : (c : In-loop-g) →
    let args = c.args in
    args.at + 8 * (c.loop-g.g * args.channels) + 8 * args.channels ≤ length args.bytes.now
group-there c =
    let within : (c.loop-g.g + 1) * c.args.channels ≤ c.args.groups * c.args.channels = mul-le-mul_right c.args.channels (omega (arith, c.loop-g-test.true)) in
    omega (arith, c.requires)

pub decode_groups-next-requires : goal.decode_groups-next-requires
decode_groups-next-requires c =
    let few = c.requires.small.0 in record { small = (few, lit≤ tt); whole = rw (slices_one 20 (lit< tt) (lit≤ tt)) (omega (arith, group-there (goal.at.decode_groups-next-requires c).In-loop-g)); room = omega (arith, c.loop-g.invariant.2); weights = λ j h. rw c.loop-g.invariant.1 (within_more (omega (arith, c.requires.small.1)) (groups_within c.args.bytes.now c.args.at c.args.channels c.args.states c.loop-g.g c.requires.weights j h)) }

pub loop-g-preserved : goal.loop-g-preserved
loop-g-preserved c =
    let args = c.args in
    let one = slices_one 20 (lit< tt) (lit≤ tt) in (
      omega arith,
      c.decode_groups-next.ensures.states ∙ rw (c.loop-g.invariant.1, one) (sym (groups_more args.bytes.now args.at args.channels args.states c.loop-g.g 1)),
      c.decode_groups-next.auto.out ∙ c.loop-g.invariant.2,
    )
