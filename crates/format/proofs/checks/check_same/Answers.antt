-- `format::checks::check_same` meets its contract.  Assumes nothing.
use mathlib.Core.Path.{sym}
use native.Mathlib.Omega.{arith}
use Rattle.refusal.proofs.Rules.{fires, none_fires}
use Rattle.word.proofs.Tests.{tests}
use Rattle.format.proofs.checks.check_same.Goals as goal
use Rattle.format.proofs.checks.check_same.Goals.{then-h-first-via-then-h-first, then-h-first-via-else-h-first+then-h-first-2}

pub returns-then-h-first : goal.returns-then-h-first
returns-then-h-first c =
    elim c.then-h-first.branch [
      | then-h-first-via-then-h-first w ↦ sym (fires 0 _ 4 (omega (arith, tests)))
      | then-h-first-via-else-h-first+then-h-first-2 w ↦ sym (fires 1 _ 4 (omega (arith, tests)))
    ]

pub returns : goal.returns
returns c = sym (none_fires _ (omega (arith, tests)))
