-- `encoder::rules::first_wide` meets its contract. Assumes nothing.
use mathlib.Core.Path.{◌≡◌, ap, sym, ◌∙◌}
use mathlib.Core.Bool.{true, false}
use borrow.Author.Tests.{tests}
use native.Mathlib.Omega.{arith}
use lib.ListN.{take}
use Rattle.std.proofs.Common.{rules}
use Rattle.std.proofs.lemmas.Iterator.{IsFirst-from_position, YieldsList-from_slice}
use Rattle.lms.specs.Predictor.{all_short}
use Rattle.encoder.specs.Frame.{first_wide}
use Rattle.encoder.specs.Parts.{told_wide}
use Rattle.encoder.proofs.Wides.{IsFirstWide, wide_told}
use Rattle.encoder.proofs.rules.first_wide.Goals as goal
use Rattle.encoder.proofs.rules.first_wide.Goals.{After-position}

first : (c : After-position) → IsFirstWide (take c.args.channels c.args.states) c.position.result
first c =
    IsFirst-from_position _ _ _ (λ lms. all_short lms.weights ≡ false) (λ lms. all_short lms.weights ≡ true) c.position.ensures.ran (YieldsList-from_slice (take c.args.channels c.args.states) cc) (λ x q k. search (rules, tests)) (λ x q k. search (rules, tests))

found : (c : After-position) → told_wide c.position.result ≡ first_wide c.args.channels c.args.states
found c = wide_told c.args.states c.args.channels (omega arith) c.position.result (first c)

pub returns-in_err-channel : goal.returns-in_err-channel
returns-in_err-channel c = ap told_wide (c.from_residual.ensures ∙ sym c.in_err-channel.was) ∙ found (goal.at.returns-in_err-channel c).After-position

pub returns : goal.returns
returns c = ap told_wide (sym c.in_ok-channel.was) ∙ found (goal.at.returns c).After-position
