-- `block::decoding::read_pending` meets its contract. The invariant: the samples passed are stored. Assumes nothing.
use mathlib.Core.Path.{◌≡◌}
use Prim.Native.Nat.{◌+◌, ◌-◌, ◌≤◌}
use Rattle.word.specs.Parts.{written}
use Rattle.block.specs.DecoderBlock.{sample_in}
use Rattle.block.proofs.decoding.read_pending.Given as goal

abbrev pub invariant-loop-i : goal.invariant-loop-i
invariant-loop-i l = (l.next ≤ l.i) × (l.i - l.next ≤ l.end - l.next) × (l.pending ≡ written (λ k. sample_in l.block (l.next + k)) l.initial.pending l.next 1 (l.i - l.next))

abbrev pub decreases-loop-i : goal.decreases-loop-i
decreases-loop-i l = l.end - l.i
