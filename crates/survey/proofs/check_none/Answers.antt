-- `survey::check_none` meets its contract.  Assumes nothing.
use mathlib.Core.Path.{sym}
use native.Mathlib.Omega.{arith}
use Rattle.refusal.proofs.Rules.{fires, none_fires}
use Rattle.word.proofs.Tests.{tests}
use Rattle.survey.proofs.check_none.Goals as goal

pub returns-then-left-ne0 : goal.returns-then-left-ne0
returns-then-left-ne0 c = sym (fires 0 _ 5 (omega (arith, tests)))

pub returns : goal.returns
returns c = sym (none_fires _ (omega (arith, tests)))
