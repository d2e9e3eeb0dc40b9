-- `state::opening::stream_state` meets its contract. Assumes nothing.
use Rattle.word.specs.Table.{table}
use Rattle.state.specs.View.{view}
use Rattle.state.specs.Opening.{opened_stream, zero_state}
use Rattle.state.proofs.opening.stream_state.Goals as goal

pub returns : goal.returns
unfolding view opened_stream zero_state table
returns c = rw c.zero_state.ensures
