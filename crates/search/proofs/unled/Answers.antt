-- `search::unled` meets its contract.
-- Assumes nothing.
use mathlib.Core.Path.{refl}
use Rattle.search.specs.Search.{leader_of}
use Rattle.search.proofs.unled.Goals as goal

pub returns : goal.returns
unfolding leader_of
returns c = refl
