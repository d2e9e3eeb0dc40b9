-- `survey::check_tail` meets its contract. Assumes nothing.
use mathlib.Core.Path.{sym, ◌∙◌}
use Rattle.refusal.specs.Rules.{first_of}
use Rattle.survey.proofs.check_tail.Goals as goal

pub returns-then-not-tail_ok : goal.returns-then-not-tail_ok
unfolding first_of
returns-then-not-tail_ok c = rw (sym c.tail_ok.ensures ∙ c.if-not-tail_ok.true)

pub returns : goal.returns
unfolding first_of
returns c = rw (sym c.tail_ok.ensures ∙ c.if-not-tail_ok.false)
