-- `format::checks::check_cut` meets its contract.  Assumes nothing.
use mathlib.Core.Path.{sym}
use native.Mathlib.Omega.{arith}
use Rattle.refusal.proofs.Rules.{fires, none_fires}
use Rattle.word.proofs.Tests.{tests}
use Rattle.format.proofs.checks.check_cut.Goals as goal

pub returns-then-left-whole : goal.returns-then-left-whole
returns-then-left-whole c = sym (fires 0 _ 5 (omega (arith, tests)))

pub returns : goal.returns
returns c = sym (none_fires _ (omega (arith, tests)))
