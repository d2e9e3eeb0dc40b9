-- `lines::hex::store_hex` meets its contract. Assumes nothing.
use mathlib.Core.Path.{◌≡◌}
use Prim.Native.Nat.{◌*◌}
use Rattle.word.specs.Parts.{written}
use Rattle.lines.specs.Hex.{digit_of}
use Rattle.lines.proofs.hex.store_hex.Given as goal

abbrev pub invariant-loop-i : goal.invariant-loop-i
invariant-loop-i l = l.out ≡ written (digit_of l.bytes) l.initial.out l.at 1 (l.i * 2)
