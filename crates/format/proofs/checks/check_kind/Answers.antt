-- `format::checks::check_kind` meets its contract. Assumes nothing.
use Rattle.refusal.specs.Rules.{first_of}
use Rattle.refusal.proofs.Told.{exit_refusal}
use Rattle.format.proofs.Checking.{first_append}
use Rattle.format.proofs.checks.check_kind.Goals as goal

pub returns-in-Any : goal.returns-in-Any
unfolding first_of
returns-in-Any c = rw c.in-Any.is

pub returns-in_err-check_state-in-Like : goal.returns-in_err-check_state-in-Like
returns-in_err-check_state-in-Like c = rw (c.in-Like.is, first_append, ← c.in_err-check_state-in-Like.ensures) (exit_refusal _ _ c.from_residual.ensures.1)

pub returns-in_ok-check_state-in-Like : goal.returns-in_ok-check_state-in-Like
returns-in_ok-check_state-in-Like c = rw (c.in-Like.is, first_append, ← c.in_ok-check_state-in-Like.ensures) c.check_same.ensures
