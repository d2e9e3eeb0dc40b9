-- The facts of a file at its start are those of the state that opening hands back. Assumes nothing.
use Prim.Native.Nat.{ℕ}
use mathlib.Core.Path.{◌≡◌, ap, ◌∙◌}
use mathlib.Core.List.{List}
use mathlib.Core.Option.{none, some}
use lib.ListN.{length}
use Rattle.refusal.specs.Rules.{first_of, refused}
use Rattle.word.proofs.Fields.{AreBytes}
use Rattle.state.specs.View.{View, view}
use Rattle.state.specs.Facts.{facts_answer}
use Rattle.state.specs.Opening.{OpenLeaves, open_rules, opened_at}
use Rattle.state.specs.declared.QoaDecoder.{QoaDecoder}
use Rattle.state.proofs.KnownFacts.{facts_known}
use Rattle.state.proofs.OpenedStates.{opened_good}
use Rattle.qoa.specs.Coded.{opened_facts}

pub not_opened : (b : List ℕ) (n : ℕ) → first_of (open_rules b) ≡ some n → opened_facts b ≡ refused n
unfolding opened_facts
not_opened b n e = rw e

pub opened_known : (b : List ℕ) → AreBytes b → (d : QoaDecoder) → first_of (open_rules b) ≡ none → OpenLeaves (first_of (open_rules b)) b d
    → facts_answer (view d) (length b) ≡ opened_facts b
unfolding opened_facts
opened_known b bytes d none_fires leaves =
    let same : view d ≡ opened_at b = rw none_fires at leaves in
    rw none_fires (ap (λ (v : View). facts_answer v (length b)) same ∙ facts_known (opened_at b) (length b) (opened_good b bytes none_fires))
