-- `slice::SliceWord::hear_rest` meets its contract. The loop's invariant: whatever predictor the slice began with, `i` samples of it are heard.
-- The measure is what is left of the twenty. Assumes nothing.
use mathlib.Core.Path.{◌≡◌}
use Prim.Native.Nat.{◌+◌, ◌*◌, ◌-◌, ◌^◌, ◌≤◌}
use Rattle.lms.specs.Parts.{WeightsWithin}
use Rattle.lms.specs.declared.QoaLms.{QoaLms}
use Rattle.slice.specs.Slice.{state_after}
use Rattle.slice.proofs.SliceWord.hear_rest.Given as goal

abbrev pub invariant-loop-i : goal.invariant-loop-i
invariant-loop-i l =
    (l.i ≤ 20)
    × (WeightsWithin (2 ^ 29 + 17920 + 896 * l.i) l.state)
    × ((s : QoaLms) → l.initial.state ≡ state_after l.self.word s l.from → l.state ≡ state_after l.self.word s l.i)

abbrev pub decreases-loop-i : goal.decreases-loop-i
decreases-loop-i l = 20 - l.i
