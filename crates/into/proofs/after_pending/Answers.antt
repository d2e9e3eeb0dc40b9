-- `into::after_pending` meets its contract. Assumes nothing.
use Rattle.state.specs.View.{view}
use Rattle.into.proofs.Taken.{view_pending_left}
use Rattle.into.proofs.after_pending.Goals as goal

pub returns : goal.returns
unfolding view
returns c =
    let args = c.args in
    let range = c.pending_range-next.ensures in
    λ bs. rw (range.0, range.1) (view_pending_left bs args.d args.given args.count c.requires.1)
