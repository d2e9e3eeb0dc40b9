-- `play::body` meets its contract. Assumes nothing.
use mathlib.Core.Path.{ap, sym, ◌∙◌}
use native.Mathlib.Omega.{arith}
use Rattle.format.proofs.Checking.{passed}
use Rattle.play.specs.Decisions.{plays}
use Rattle.play.proofs.Deciding.{body_on, exit_stops, body_refused}
use Rattle.play.proofs.body.Goals as goal

pub overflow_add-run : goal.overflow_add-run
overflow_add-run c =
    let told = sym c.in_ok-check_frame.ensures in
    let whole = (passed _ _ _ _ told).there in
    omega (arith, whole, c.count_within-left.ensures, c.requires.0.few_read)

pub returns-in_err-check_frame : goal.returns-in_err-check_frame
returns-in_err-check_frame c =
    let a = c.args in
    let told = sym c.in_err-check_frame.ensures in
    exit_stops _ _ c.from_residual.ensures.1 ∙ body_refused a.run a.bytes.now _ _ _ c.read_header-h.ensures c.first_for-first.ensures c.count_within-left.ensures _ c.length-size.ensures _ told

pub returns : goal.returns
returns c =
    let a = c.args in
    let told = sym c.in_ok-check_frame.ensures in
    ap (plays c.length-size.result) c.next_head.ensures ∙ body_on a.run a.bytes.now _ _ _ c.read_header-h.ensures c.first_for-first.ensures c.count_within-left.ensures _ c.length-size.ensures told
