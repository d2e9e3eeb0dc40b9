-- `play::start` meets its contract. Assumes nothing.
use mathlib.Core.Path.{ap, sym, ◌∙◌}
use Rattle.play.specs.Decisions.{reads}
use Rattle.play.proofs.Deciding.{exit_stops, start_on, start_refused}
use Rattle.play.proofs.start.Goals as goal

pub returns-in_err-total : goal.returns-in_err-total
returns-in_err-total c = exit_stops _ _ c.from_residual.ensures.1 ∙ start_refused _ _ (sym c.in_err-total.ensures)

pub returns : goal.returns
returns c = ap reads c.next_head.ensures ∙ start_on _ _ (sym c.in_ok-total.ensures)
