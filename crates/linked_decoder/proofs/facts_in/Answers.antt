-- `linked_decoder::facts_in` meets its contract. Assumes nothing.
use mathlib.Core.Path.{sym, ap, ◌∙◌}
use lib.ListN.{length}
use Rattle.state.specs.Facts.{facts_answer}
use Rattle.state.specs.View.{View}
use Rattle.linked_decoder.specs.Linked.{facts_on}
use Rattle.linked_decoder.proofs.Linking.{read_rules, unread}
use Rattle.linked_decoder.proofs.facts_in.Goals as goal

pub returns-in_default : goal.returns-in_default
unfolding facts_on
returns-in_default c = rw (unread c.args.state.now (length c.args.bytes.now) _ c.in_default.ensures)

pub returns : goal.returns
unfolding facts_on facts_answer
returns c =
    c.facts_given.ensures ∙ ap (λ (v : View). facts_answer v (length c.args.bytes.now)) c.in-Some.ensures.1 ∙ sym (rw (read_rules c.args.state.now _ c.in-Some.ensures.0))
