-- `search::first_trials` meets its contract. The invariant: the codes and keys below `sf` are in place.
-- Assumes nothing.
use Prim.Native.Nat.{ℕ, ◌-◌, ◌≤◌, ◌<◌}
use mathlib.Core.Path.{◌≡◌}
use lib.ListN.{length, get_or}
use Rattle.trial.specs.Trial.{tried}
use Rattle.search.specs.Search.{first_cost}
use Rattle.search.specs.Parts.{key_of}
use Rattle.search.proofs.first_trials.Given as goal

abbrev pub invariant-loop-sf : goal.invariant-loop-sf
invariant-loop-sf l =
    (l.sf ≤ 16) × (length l.codes ≡ 16) × (length l.keys ≡ 16)
    × ((k : ℕ) → k < l.sf → get_or l.codes k 0 ≡ (tried l.lms l.fn.sample k).code)
    × ((k : ℕ) → k < l.sf → get_or l.keys k 0 ≡ key_of (first_cost l.lms l.fn.sample) k)

abbrev pub decreases-loop-sf : goal.decreases-loop-sf
decreases-loop-sf l = 16 - l.sf
