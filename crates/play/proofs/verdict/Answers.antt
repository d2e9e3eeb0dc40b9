-- `play::verdict` meets its contract. Assumes nothing.
use mathlib.Core.Path.{sym, ◌∙◌}
use Rattle.play.proofs.Deciding.{exit_stops, state_on, state_refused}
use Rattle.play.proofs.verdict.Goals as goal

pub returns-in_err-check_frame : goal.returns-in_err-check_frame
returns-in_err-check_frame c =
    let a = c.args in
    let told = sym c.in_err-check_frame.ensures in
    exit_stops _ _ c.from_residual.ensures.1 ∙ state_refused a.run a.bytes.now _ _ _ c.read_header-h.ensures c.first_for-first.ensures c.count_within-left.ensures _ told

pub returns : goal.returns
returns c =
    let a = c.args in
    let told = sym c.in_ok-check_frame.ensures in
    c.size_verdict.ensures ∙ state_on a.run a.bytes.now _ _ _ c.read_header-h.ensures c.first_for-first.ensures c.count_within-left.ensures told
