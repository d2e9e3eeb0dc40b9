-- `format::frame::state_end` meets its contract. Assumes nothing.
use mathlib.Core.Path.{refl}
use Rattle.format.specs.Format.{state_end}
use Rattle.format.proofs.frame.state_end.Goals as goal

pub returns : goal.returns
unfolding state_end
returns c = refl
