-- `format::tail::tail_ok` meets its contract. Assumes nothing.
use mathlib.Core.Path.{refl}
use Rattle.format.specs.Grammar.{tail_ok}
use Rattle.format.proofs.tail.tail_ok.Goals as goal

pub returns : goal.returns
unfolding tail_ok
returns c = refl
