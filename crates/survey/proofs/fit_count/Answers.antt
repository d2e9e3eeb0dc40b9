-- `survey::fit_count` meets its contract.  Assumes nothing.
use mathlib.Core.Path.{sym}
use native.Mathlib.Omega.{arith}
use Rattle.survey.proofs.Walking.{fits_good, fits_not}
use Rattle.survey.proofs.fit_count.Goals as goal

pub returns-then-room-need : goal.returns-then-room-need
returns-then-room-need c = sym (fits_not _ _ (omega arith))

pub returns : goal.returns
returns c = sym (fits_good _ _ (omega arith))
