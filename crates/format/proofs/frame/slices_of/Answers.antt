-- `format::frame::slices_of` meets its contract. Assumes nothing.
use native.Mathlib.Omega.{arith}
use Rattle.format.specs.Format.{slices_of}
use Rattle.format.proofs.frame.slices_of.Goals as goal

pub returns : goal.returns
unfolding slices_of
returns c = rw c.div_ceil.ensures (omega arith)
