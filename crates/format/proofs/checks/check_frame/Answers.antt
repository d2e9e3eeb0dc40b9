-- `format::checks::check_frame` meets its contract. Assumes nothing.
use Rattle.refusal.proofs.Told.{exit_refusal}
use Rattle.format.proofs.Checking.{in_order}
use Rattle.format.proofs.checks.check_frame.Goals as goal

pub returns-in_err-check_header : goal.returns-in_err-check_header
returns-in_err-check_header c = rw (in_order, ← c.in_err-check_header.ensures) (exit_refusal _ _ c.from_residual.ensures.1)

pub returns-in_err-check_kind : goal.returns-in_err-check_kind
returns-in_err-check_kind c =
    rw (in_order, ← c.in_ok-check_header.ensures, ← c.in_err-check_kind.ensures) (exit_refusal _ _ c.from_residual-in_err-check_kind.ensures.1)

pub returns : goal.returns
returns c = rw (in_order, ← c.in_ok-check_header.ensures, ← c.in_ok-check_kind.ensures) c.check_cut.ensures
