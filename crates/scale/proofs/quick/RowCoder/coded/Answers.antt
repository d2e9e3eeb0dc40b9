-- A plain row codes a residual by its contract: the code is below 8, and the row is read at it.
-- Assumes nothing.
use Rattle.scale.proofs.Bounds.{code_lt}
use Rattle.scale.proofs.quick.RowCoder.coded.Goals as goal

pub bounds-self-code : goal.bounds-self-code
bounds-self-code c = rw c.quick_code-code.ensures (code_lt _)
