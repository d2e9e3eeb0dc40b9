-- `state::opening::zero_state` meets its contract. Assumes nothing.
use mathlib.Core.Path.{refl}
use Rattle.state.specs.Opening.{zero_state}
use Rattle.state.proofs.opening.zero_state.Goals as goal

pub returns : goal.returns
unfolding zero_state
returns c = refl
