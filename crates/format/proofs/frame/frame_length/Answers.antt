-- `format::frame::frame_length` meets its contract. Assumes nothing.
use native.Mathlib.Omega.{arith}
use Prim.Native.Nat.{◌*◌, ◌≤◌}
use Rattle.format.specs.Format.{frame_length, state_end}
use Rattle.format.proofs.Headers.{slices_small}
use Rattle.format.proofs.frame.frame_length.Goals as goal
use Rattle.format.proofs.frame.frame_length.Goals.{After-slices_of}

-- the product, however large channels and samples are
few : (c : After-slices_of) → c.args.channels * c.slices_of.result ≤ 255 * 3277
few c = rw c.slices_of.ensures (slices_small c.requires.0 c.requires.1)

pub overflow_mul-result : goal.overflow_mul-result
overflow_mul-result c = omega (arith, few c)

pub overflow_mul-result-2 : goal.overflow_mul-result-2
overflow_mul-result-2 c = omega (arith, few c)

pub overflow_add-result : goal.overflow_add-result
unfolding state_end
overflow_add-result c = omega (arith, few c)

pub returns : goal.returns
unfolding frame_length
returns c = rw (c.state_end.ensures, c.slices_of.ensures)
