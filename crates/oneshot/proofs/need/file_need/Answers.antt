-- `oneshot::need::file_need` meets its contract: the need of the longest file has 40 bits. Assumes nothing.
use Prim.Native.Nat.{◌*◌, ◌≤◌}
use native.Mathlib.Nat.{mul-le-mul}
use native.Mathlib.Omega.{arith}
use Rattle.format.specs.Format.{max_channels, slices_of, state_end}
use Rattle.oneshot.specs.OneShot.{frames_in, need_of}
use Rattle.oneshot.proofs.need.file_need.Goals as goal
use Rattle.oneshot.proofs.need.file_need.Goals.{After-slices_of, After-state_end}

-- the states of all frames
states-small : (c : After-state_end) → c.frames_in.result * c.state_end.result ≤ 1000000 * state_end max_channels
unfolding frames_in state_end
states-small c = mul-le-mul {n₂ = 1000000} {m₂ = state_end max_channels} (omega arith) (omega arith)

pub overflow_mul-result : goal.overflow_mul-result
unfolding state_end
overflow_mul-result c = omega (arith, states-small c)

-- and all slices
slices_small : (c : After-slices_of) → c.args.channels * c.slices_of.result ≤ max_channels * 300000000
unfolding slices_of
slices_small c = mul-le-mul {n₂ = max_channels} {m₂ = 300000000} (omega arith) (omega arith)

pub overflow_mul-result-2 : goal.overflow_mul-result-2
overflow_mul-result-2 c = omega (arith, slices_small c)

pub overflow_mul-result-3 : goal.overflow_mul-result-3
overflow_mul-result-3 c = omega (arith, slices_small c)

pub overflow_add-result : goal.overflow_add-result
unfolding state_end
overflow_add-result c = omega (arith, states-small (goal.at.overflow_add-result c).After-state_end, slices_small c)

pub overflow_add-result-2 : goal.overflow_add-result-2
unfolding state_end
overflow_add-result-2 c = omega (arith, states-small (goal.at.overflow_add-result-2 c).After-state_end, slices_small c)

pub returns : goal.returns
unfolding need_of
returns c = rw (c.frames_in.ensures, c.state_end.ensures, c.slices_of.ensures)
