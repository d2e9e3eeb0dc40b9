-- `linked_decoder::qoa_decoder_facts` meets its contract. Assumes nothing.
use mathlib.Core.Path.{refl, sym, ap, ◌∙◌}
use mir.Syntax.{w64}
use Rattle.wrap.proofs.Integers.{returned}
use Rattle.format.specs.declared.facts.Facts.{Facts}
use Rattle.refusal.specs.Refusals.{told}
use Rattle.refusal.specs.Rules.{good}
use Rattle.refusal.specs.Lent.{laid_over}
use Rattle.linked_decoder.specs.Linked.{three_facts}
use Rattle.linked_decoder.proofs.Linking.{facts_bad, facts_done, facts_good, facts_refused, facts_short}
use Rattle.linked_decoder.proofs.qoa_decoder_facts.Goals as goal

pub returns-then-facts-lt3 : goal.returns-then-facts-lt3
returns-then-facts-lt3 c =
    let args = c.args in
    let tells = sym (ap told c.in-Ok.is) ∙ c.facts_in.ensures in
    facts_refused _ _ args.facts.now 7 _ (facts_short _ _ args.facts.now _ tells c.if-facts-lt3.true) (returned w64 c.minus-then-facts-lt3.result c.minus-then-facts-lt3.type_inv c.minus-then-facts-lt3.ensures)

pub returns-in-Err : goal.returns-in-Err
returns-in-Err c =
    let args = c.args in
    let tells = sym (ap told c.in-Err.is) ∙ c.facts_in.ensures in
    facts_refused _ _ args.facts.now _ _ (facts_bad _ _ args.facts.now _ tells) (returned w64 c.minus.result c.minus.type_inv c.minus.ensures)

pub returns-else-facts-lt3 : goal.returns-else-facts-lt3
returns-else-facts-lt3 c =
    let args = c.args in
    let tells = sym (ap told c.in-Ok.is) ∙ c.facts_in.ensures in
    let found = facts_good _ _ args.facts.now _ tells c.if-facts-lt3.false in
    facts_done _ _ args.facts.now _ _ found.0 refl (c.put_facts.ensures ∙ ap (λ (f : Facts). laid_over args.facts.now 0 (good (three_facts f))) (sym found.1))
