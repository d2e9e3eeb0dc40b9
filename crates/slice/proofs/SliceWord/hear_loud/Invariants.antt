-- `slice::SliceWord::hear_loud` meets its contract. The loop's invariant: `i` samples are heard and stored, whatever the slice began with, and the
-- codes after them are those of `rest`. The measure is what is left of the count. Assumes nothing.
use mathlib.Core.Path.{◌≡◌}
use mathlib.Core.List.{List}
use Prim.Native.Nat.{ℕ, ◌+◌, ◌*◌, ◌-◌, ◌^◌, ◌≤◌, ◌<◌}
use lib.IntN.{ℤ}
use lib.ListN.{length}
use Rattle.word.specs.Word.{code_of}
use Rattle.lms.specs.declared.QoaLms.{QoaLms}
use Rattle.lms.specs.Parts.{WeightsWithin}
use Rattle.slice.specs.Parts.{HeardTo}
use Rattle.slice.proofs.SliceWord.hear_loud.Given as goal

abbrev pub invariant-loop-i : goal.invariant-loop-i
invariant-loop-i l =
    (l.i ≤ l.count)
    × (length l.out ≡ length l.initial.out)
    × (WeightsWithin (2 ^ 29 + 17920 + 896 * l.i) l.state.lms)
    × ((j : ℕ) → l.i + j < 20 → code_of l.rest j ≡ code_of l.self.word (l.i + j))
    × ((s : QoaLms) (o : List ℤ) → HeardTo l.self.word s o l.start l.stride l.from l.initial.state.lms l.initial.out → HeardTo l.self.word s o l.start l.stride l.i l.state.lms l.out)

abbrev pub decreases-loop-i : goal.decreases-loop-i
decreases-loop-i l = l.count - l.i
