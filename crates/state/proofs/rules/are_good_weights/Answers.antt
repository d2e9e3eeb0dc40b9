-- `state::rules::are_good_weights` meets its contract. Assumes nothing.
use borrow.Author.Rules.{rules}
use borrow.Author.Tests.{tests}
use mathlib.Core.Path.{◌≡◌}
use mathlib.Core.Bool.{true, false}
use lib.Dec.{leb}
use lib.IntN.{nat_abs, pos}
use Rattle.std.proofs.lemmas.Iterator.{YieldsList-from_slice, cases_from_all}
use Rattle.state.specs.States.{weight_rule}
use Rattle.state.proofs.Alls.{all_below}
use Rattle.state.proofs.rules.are_good_weights.Goals as goal

pub returns : goal.returns
unfolding weight_rule
returns c =
    all_below (λ w. leb (nat_abs w) c.args.bound) c.args.lms.weights (pos 0) c.all.result
    (cases_from_all _ _ _ (λ w. leb (nat_abs w) c.args.bound ≡ true) (λ w. leb (nat_abs w) c.args.bound ≡ false) c.all.ensures.ran (YieldsList-from_slice c.args.lms.weights cc) (λ x q k. search (rules, tests)) (λ x q k. search (rules, tests)))
