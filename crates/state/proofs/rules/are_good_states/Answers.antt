-- `state::rules::are_good_states` meets its contract. Assumes nothing.
use borrow.Author.Rules.{rules}
use borrow.Author.Tests.{tests}
use mathlib.Core.Path.{◌≡◌}
use mathlib.Core.Bool.{true, false, ◌&&◌}
use Rattle.lms.specs.Predictor.{history_rule}
use Rattle.std.proofs.lemmas.Iterator.{YieldsList-from_slice, cases_from_all}
use Rattle.state.specs.States.{lms_rule, weight_rule}
use Rattle.state.proofs.Alls.{all_below}
use Rattle.state.proofs.rules.are_good_states.Goals as goal

pub returns : goal.returns
unfolding lms_rule
returns c =
    all_below (λ s. history_rule s && weight_rule c.args.bound s) c.args.states.now _ c.all.result
    (cases_from_all _ _ _ (λ s. (history_rule s && weight_rule c.args.bound s) ≡ true) (λ s. (history_rule s && weight_rule c.args.bound s) ≡ false) c.all.ensures.ran (YieldsList-from_slice c.args.states.now cc) (λ x q k. search (rules, tests)) (λ x q k. search (rules, tests)))
