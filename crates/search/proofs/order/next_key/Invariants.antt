-- `search::order::next_key` meets its contract. The invariant: `least` is the next of the keys so far.
-- Assumes nothing.
use mathlib.Core.Path.{◌≡◌}
use Rattle.search.specs.Parts.{next_key}
use Rattle.search.proofs.order.next_key.Given as goal

abbrev pub invariant-loop-key : goal.invariant-loop-key
invariant-loop-key l = l.least ≡ next_key l.keys l.from l.key-index
