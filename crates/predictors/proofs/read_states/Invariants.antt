-- `predictors::read_states` meets its contract. The invariant: the states passed are stored. Assumes nothing.
use Rattle.std.proofs.Common.{◌≡◌, ◌+◌, ◌*◌}
use Rattle.word.specs.Parts.{written}
use Rattle.format.specs.Predictor.{lms_at}
use Rattle.predictors.proofs.read_states.Given as goal

abbrev pub invariant-loop-j : goal.invariant-loop-j
invariant-loop-j l = l.lms-items ≡ written (λ k. lms_at l.bytes (l.at + 16 * k)) l.initial.lms-items 0 1 l.j
