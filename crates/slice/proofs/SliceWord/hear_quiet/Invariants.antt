-- `slice::SliceWord::hear_quiet` meets its contract. The loop's invariant: `i` samples are heard and stored, whatever the slice began with.
-- The measure is what is left of them. Assumes nothing.
use mathlib.Core.Path.{◌≡◌}
use mathlib.Core.List.{List}
use Prim.Native.Nat.{◌+◌, ◌*◌, ◌-◌, ◌^◌, ◌≤◌}
use lib.IntN.{ℤ}
use lib.ListN.{length}
use Rattle.lms.specs.declared.QoaLms.{QoaLms}
use Rattle.lms.specs.Parts.{WeightsWithin}
use Rattle.slice.specs.Parts.{HeardTo}
use Rattle.slice.proofs.SliceWord.hear_quiet.Given as goal

abbrev pub invariant-loop-i : goal.invariant-loop-i
invariant-loop-i l =
    (l.from ≤ l.i)
    × (l.i ≤ l.to)
    × (length l.out ≡ length l.initial.out)
    × (WeightsWithin (2 ^ 29 + 17920 + 896 * l.i) l.state.lms)
    × ((s : QoaLms) (o : List ℤ) → HeardTo l.self.word s o l.start l.stride l.from l.initial.state.lms l.initial.out → HeardTo l.self.word s o l.start l.stride l.i l.state.lms l.out)

abbrev pub decreases-loop-i : goal.decreases-loop-i
decreases-loop-i l = l.to - l.i
