-- `read` of `u32` meets its contract. The invariant: the first `i` numbers are stored. Assumes nothing.
use mathlib.Core.Path.{◌≡◌}
use Prim.Native.Nat.{◌*◌}
use Rattle.word.specs.Bytes.{be32}
use Rattle.word.specs.Parts.{written}
use Rattle.lines.proofs.lists.U32Element.read.Given as goal

abbrev pub invariant-loop-i : goal.invariant-loop-i
invariant-loop-i l = l.out ≡ written (λ k. be32 l.bytes (k * 4)) l.initial.out 0 1 l.i
