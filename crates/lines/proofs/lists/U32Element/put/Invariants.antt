-- `put` of `u32` meets its contract. The invariant: the first `i` numbers are stored. Assumes nothing.
use mathlib.Core.Path.{◌≡◌}
use lib.ListN.{length}
use Rattle.lines.specs.Lists.{numbers_put}
use Rattle.lines.proofs.lists.U32Element.put.Given as goal

abbrev pub invariant-loop-i : goal.invariant-loop-i
invariant-loop-i l = (length l.out ≡ length l.initial.out) × (l.out ≡ numbers_put l.elements l.initial.out l.i)
