-- `word::little::read_samples` meets its contract. The loop's invariant: the samples passed are stored. Assumes nothing.
use Rattle.std.proofs.Common.{◌≡◌, ◌*◌}
use Rattle.word.specs.Parts.{written}
use Rattle.word.specs.Little.{le_sample}
use Rattle.word.proofs.little.read_samples.Given as goal

abbrev pub invariant-loop-i : goal.invariant-loop-i
invariant-loop-i l = l.out ≡ written (λ k. le_sample l.bytes (k * 2)) l.initial.out 0 1 l.i
