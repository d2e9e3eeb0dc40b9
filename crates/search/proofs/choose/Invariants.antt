-- `search::choose` meets its contract. Each loop holds an equation: what is left of the definition, from here, gives what the whole gives.
-- `Held` is that of the candidates, with the best met so far; `Trying` that of the samples of one candidate.
-- Assumes nothing.
use Prim.Native.Nat.{ℕ, ◌+◌, ◌-◌, ◌^◌, ◌≤◌}
use mathlib.Core.Path.{◌≡◌}
use mathlib.Core.List.{List, ◌∷◌}
use Rattle.lms.specs.Predictor.{at}
use Rattle.search.specs.Candidate.{Best}
use Rattle.search.specs.Search.{first_cost}
use Rattle.search.proofs.Keys.{Coming, Due}
use Rattle.search.proofs.Searching.{Held, Trying}
use Rattle.search.proofs.choose.Given as goal

abbrev pub invariant-samples : goal.invariant-samples
invariant-samples l =
    (l.i ≤ l.n) × (met : Best) × (rest : List ℕ) × Held l.lms l.samples met l.best l.initial.trials (l.sf ∷ rest) × Coming (first_cost l.lms (at l.samples 0)) (l.key + 1) rest
    × Trying l.lms l.samples met l.best l.sf l.i l.run × (l.trials + 1 ≡ l.initial.trials + l.i)

abbrev pub decreases-samples : goal.decreases-samples
decreases-samples l = l.n - l.i

abbrev pub invariant-candidates : goal.invariant-candidates
invariant-candidates l =
    (met : Best) × (rest : List ℕ) × Held l.lms l.samples met l.best l.trials rest × Due (first_cost l.lms (at l.samples 0)) l.key rest

abbrev pub decreases-candidates : goal.decreases-candidates
decreases-candidates l = 2 ^ 64 - 1 - l.key
