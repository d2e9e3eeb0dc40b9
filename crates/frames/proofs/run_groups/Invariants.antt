-- `frames::run_groups` meets its contract. The loop's invariant: the predictors are those after `g` groups.
-- The measure is what is left of the groups. Assumes nothing.
use mathlib.Core.Path.{◌≡◌}
use Prim.Native.Nat.{◌-◌, ◌≤◌}
use lib.ListN.{length}
use Rattle.format.specs.Format.{pending_len}
use Rattle.groups.specs.Parts.{groups_states}
use Rattle.frames.proofs.run_groups.Given as goal

abbrev pub invariant-loop-g : goal.invariant-loop-g
invariant-loop-g l = (l.g ≤ l.groups) × (l.all ≡ groups_states l.bytes l.at l.channels l.initial.all l.g) × (length l.scratch ≡ pending_len)

abbrev pub decreases-loop-g : goal.decreases-loop-g
decreases-loop-g l = l.groups - l.g
