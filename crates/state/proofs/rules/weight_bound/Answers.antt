-- `state::rules::weight_bound` meets its contract. Assumes nothing.
use native.Mathlib.Omega.{arith}
use mathlib.Core.Path.{ap}
use Prim.Native.Nat.{ℕ, ◌+◌, ◌-◌, ◌*◌, ◌≤◌}
use Rattle.format.specs.Format.{slices_of}
use Rattle.state.specs.States.{weight_bound}
use Rattle.state.proofs.rules.weight_bound.Goals as goal
use Rattle.state.proofs.rules.weight_bound.Goals.{After-slices_of-slices}

few : (c : After-slices_of-slices) → c.slices_of-slices.result ≤ 3277
unfolding slices_of
few c = omega arith

pub overflow_cast-slices : goal.overflow_cast-slices
overflow_cast-slices c = omega (arith, few c)

pub overflow_sub-result : goal.overflow_sub-result
overflow_sub-result c = omega (arith, few c)

pub returns : goal.returns
unfolding weight_bound
returns c = ap (λ (s : ℕ). 32768 + 17920 * (3277 - s)) c.slices_of-slices.ensures
