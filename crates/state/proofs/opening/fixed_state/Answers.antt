-- `state::opening::fixed_state` meets its contract. Assumes nothing.
use native.Mathlib.Omega.{arith}
use mathlib.Core.Path.{◌≡◌, refl}
use lib.ListN.{length}
use Rattle.format.specs.Format.{max_channels, state_end}
use Rattle.state.specs.Opening.{zero_state}
use Rattle.state.proofs.Openings.{fixed_view}
use Rattle.state.proofs.opening.fixed_state.Goals as goal

long : length zero_state.lms ≡ max_channels
unfolding zero_state
long = refl

pub read_states-requires : goal.read_states-requires
unfolding state_end
read_states-requires c =
    (c.requires.2, omega (arith, c.requires.3))

pub returns : goal.returns
unfolding zero_state
returns c =
    rw (c.state_end.ensures, c.from.ensures, c.read_states.ensures, c.zero_state-zero.ensures)
    (fixed_view c.args.bytes.now c.args.total c.args.h zero_state.lms zero_state.pending c.requires.0 c.requires.1 (omega (arith, c.requires.2, long)))
