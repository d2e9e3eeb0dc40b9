-- `state::rules::is_good_lms` meets its contract. Assumes nothing.
use mathlib.Core.Path.{sym, ◌∙◌}
use Rattle.lms.specs.Predictor.{history_rule}
use Rattle.state.proofs.rules.is_good_lms.Goals as goal

pub returns-then-are_short : goal.returns-then-are_short
unfolding history_rule
returns-then-are_short c = rw (sym c.are_short.ensures ∙ c.if-are_short.true) c.are_good_weights.ensures

pub returns-else-are_short : goal.returns-else-are_short
unfolding history_rule
returns-else-are_short c = rw (sym c.are_short.ensures ∙ c.if-are_short.false) c.if-are_short.false
