-- `lines::hex::read_hex` meets its contract. Assumes nothing.
use mathlib.Core.Path.{◌≡◌}
use Prim.Native.Nat.{◌*◌}
use Rattle.word.specs.Parts.{written}
use Rattle.lines.specs.Hex.{pair_at}
use Rattle.lines.proofs.hex.read_hex.Given as goal

abbrev pub invariant-loop-i : goal.invariant-loop-i
invariant-loop-i l = l.out ≡ written (λ k. pair_at l.text (k * 2)) l.initial.out 0 1 l.i
