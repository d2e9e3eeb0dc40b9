-- `qoa::linked::opened_facts` meets its contract. Assumes nothing.
use mathlib.Core.Path.{sym, ap, ◌∙◌}
use Rattle.refusal.specs.Refusals.{told_refusal}
use Rattle.refusal.proofs.Told.{exit_told}
use Rattle.qoa.proofs.Opened.{not_opened, opened_known}
use Rattle.qoa.proofs.linked.opened_facts.Goals as goal

pub returns-in_err-opened : goal.returns-in_err-opened
returns-in_err-opened c =
    exit_told _ _ c.from_residual.ensures.1 ∙ sym (not_opened c.args.bytes.now _ (sym c.open_decoder-opened.ensures.0 ∙ ap told_refusal c.in_err-opened.was))

pub returns : goal.returns
returns c =
    let b = c.args.bytes.now in
    c.facts_given.ensures
    ∙ opened_known b (λ i. (c.shared_slice_known-1.given i).fits) c.open_decoder-opened.result.state (sym c.open_decoder-opened.ensures.0 ∙ ap told_refusal c.in_ok-opened.was) c.open_decoder-opened.ensures.1
