-- `word::little::put_samples` meets its contract. The invariant: the bytes of the samples passed, and then out as it was. Assumes nothing.
use Rattle.std.proofs.Common.{◌≡◌, ◌++◌, ◌*◌, take, drop}
use Rattle.word.specs.Little.{le_bytes}
use Rattle.word.proofs.little.put_samples.Given as goal

abbrev pub invariant-loop-i : goal.invariant-loop-i
invariant-loop-i l = l.out ≡ le_bytes (take l.i l.samples) ++ drop (l.i * 2) l.initial.out
