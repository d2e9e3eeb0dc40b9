-- `encoder::create::check_create` meets its contract. The first rule of `create_rules` that fires, one return for each. Assumes nothing.
use mathlib.Core.Path.{sym}
use native.Mathlib.Omega.{arith}
use Rattle.refusal.proofs.Rules.{fires, none_fires}
use Rattle.word.proofs.Tests.{tests}
use Rattle.encoder.specs.Encoder.{create_rules}
use Rattle.encoder.proofs.create.check_create.Goals as goal
use Rattle.encoder.proofs.create.check_create.Goals.{then-channels-eq0-via-then-channels-eq0, then-channels-eq0-via-else-channels-eq0+then-channels-gt-QOA_MAX_CHANNELS, then-rate-eq0-via-then-rate-eq0, then-rate-eq0-via-else-rate-eq0+then-rate-gt-QOA_MOST_RATE}

pub returns-then-channels-eq0 : goal.returns-then-channels-eq0
unfolding create_rules
returns-then-channels-eq0 c =
    elim c.then-channels-eq0.branch [
      | then-channels-eq0-via-then-channels-eq0 w ↦ sym (fires 0 _ 11 (omega (arith, tests)))
      | then-channels-eq0-via-else-channels-eq0+then-channels-gt-QOA_MAX_CHANNELS w ↦ sym (fires 1 _ 11 (omega (arith, tests)))
    ]

pub returns-then-rate-eq0 : goal.returns-then-rate-eq0
unfolding create_rules
returns-then-rate-eq0 c =
    elim c.then-rate-eq0.branch [
      | then-rate-eq0-via-then-rate-eq0 w ↦ sym (fires 2 _ 12 (omega (arith, tests)))
      | then-rate-eq0-via-else-rate-eq0+then-rate-gt-QOA_MOST_RATE w ↦ sym (fires 3 _ 12 (omega (arith, tests)))
    ]

pub returns-then-total-eq0 : goal.returns-then-total-eq0
unfolding create_rules
returns-then-total-eq0 c = sym (fires 4 _ 13 (omega (arith, tests)))

pub returns : goal.returns
unfolding create_rules
returns c = sym (none_fires _ (omega (arith, tests)))
