-- `word::write_number` meets its contract. The loop's invariant: the bytes passed are stored. Assumes nothing.
use Rattle.std.proofs.Common.{◌≡◌}
use Rattle.word.specs.Bytes.{byte_of}
use Rattle.word.specs.Parts.{written}
use Rattle.word.proofs.write_number.Given as goal

abbrev pub invariant-loop-i : goal.invariant-loop-i
invariant-loop-i l = l.byte-items ≡ written (byte_of l.n l.word) l.initial.byte-items 0 1 l.i
