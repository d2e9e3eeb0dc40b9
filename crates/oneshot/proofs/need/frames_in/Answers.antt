-- `oneshot::need::frames_in` meets its contract. Assumes nothing.
use native.Mathlib.Omega.{arith}
use Rattle.oneshot.specs.OneShot.{frames_in}
use Rattle.oneshot.proofs.need.frames_in.Goals as goal

pub returns : goal.returns
unfolding frames_in
returns c = omega (arith, c.div_ceil.ensures)
