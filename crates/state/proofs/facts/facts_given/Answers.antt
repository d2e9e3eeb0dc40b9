-- `state::facts::facts_given` meets its contract. Assumes nothing.
use mathlib.Core.Path.{◌≡◌, ap, sym, ◌∙◌}
use mathlib.Core.Bool.{true}
use lib.ListN.{length}
use Rattle.refusal.specs.Rules.{Answer, good}
use Rattle.format.specs.declared.facts.Facts.{Facts}
use Rattle.state.specs.View.{view}
use Rattle.state.specs.States.{good_state}
use Rattle.state.specs.Facts.{facts_for}
use Rattle.state.specs.declared.ProcessingMode.{ProcessingMode}
use Rattle.state.proofs.KnownFacts.{facts_known, facts_refused}
use Rattle.state.proofs.facts.facts_given.Goals as goal
use Rattle.state.proofs.facts.facts_given.Goals.{Else-not-is_good}

-- past the state rules
known : (c : Else-not-is_good) → good_state (view c.args.d) (length c.args.bytes.now) ≡ true
known c = sym c.is_good.ensures ∙ c.if-not-is_good.false

pub returns-then-not-is_good : goal.returns-then-not-is_good
returns-then-not-is_good c = sym (facts_refused _ _ (sym c.is_good.ensures ∙ c.if-not-is_good.true))

pub returns-in-Streaming : goal.returns-in-Streaming
unfolding facts_for view
returns-in-Streaming c =
    let d = c.args.d in
    ap {B = Answer Facts} good (c.facts_of.ensures ∙ ap (λ (m : ProcessingMode). facts_for m d.frame) (sym c.in-Streaming.is))
    ∙ sym (facts_known (view d) _ (known (goal.at.returns-in-Streaming c).Else-not-is_good))

pub returns-in-FixedSamples : goal.returns-in-FixedSamples
unfolding facts_for view
returns-in-FixedSamples c =
    let d = c.args.d in
    ap {B = Answer Facts} good (c.facts_of-in-FixedSamples.ensures ∙ ap (λ (m : ProcessingMode). facts_for m d.frame) (sym c.in-FixedSamples.is))
    ∙ sym (facts_known (view d) _ (known (goal.at.returns-in-FixedSamples c).Else-not-is_good))
