-- `stdio::fill`: what is read stays within the buffer, and each turn that goes on leaves fewer bytes to read.
use Rattle.std.proofs.Common.{length, ◌-◌, ◌≡◌, ◌≤◌}
use Rattle.stdio.proofs.fill.Given as goal

abbrev pub invariant-loop-n : goal.invariant-loop-n
invariant-loop-n l = (l.n ≤ length l.initial.buffer) × (length l.buffer ≡ length l.initial.buffer)

abbrev pub decreases-loop-n : goal.decreases-loop-n
decreases-loop-n l = length l.initial.buffer - l.n
