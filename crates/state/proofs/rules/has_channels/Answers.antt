-- `state::rules::has_channels` meets its contract. Assumes nothing.
use native.Mathlib.Omega.{arith}
use borrow.Author.Tests.{le-leb, lt-leb, ne_eqb}
use Rattle.state.specs.States.{some_channels}
use Rattle.state.proofs.rules.has_channels.Goals as goal

pub returns-then-channels-ne0 : goal.returns-then-channels-ne0
unfolding some_channels
returns-then-channels-ne0 c = simp (le-leb 1 c.args.channels (omega arith), ne_eqb c.args.channels 0 c.if-channels-ne0.true)

pub returns-else-channels-ne0 : goal.returns-else-channels-ne0
unfolding some_channels
returns-else-channels-ne0 c = simp (lt-leb 1 c.args.channels (omega arith))
