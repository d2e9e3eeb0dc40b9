-- `slice::SliceWord::hear_fours` meets its contract. The loop's invariant: four times `k` samples are heard and stored.
-- The measure is what is left of the fours. Assumes nothing.
use mathlib.Core.Path.{◌≡◌}
use Prim.Native.Nat.{◌*◌, ◌-◌, ◌≤◌}
use Rattle.slice.specs.Parts.{HeardTo}
use Rattle.slice.proofs.SliceWord.hear_fours.Given as goal

abbrev pub invariant-loop-k : goal.invariant-loop-k
invariant-loop-k l =
    (l.k ≤ l.fours) × (l.part.done ≡ 4 * l.k) × HeardTo l.self.word l.initial.part.lms l.initial.out l.start l.stride (4 * l.k) l.part.lms l.out

abbrev pub decreases-loop-k : goal.decreases-loop-k
decreases-loop-k l = l.fours - l.k
