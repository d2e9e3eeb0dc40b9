-- `oneshot::frame_place` meets its contract. Assumes nothing.
use Prim.Native.Nat.{◌*◌, ◌^◌, ◌≤◌}
use native.Mathlib.Nat.{mul-le-mul}
use native.Mathlib.Omega.{arith}
use Rattle.format.specs.Format.{frame_len}
use Rattle.oneshot.specs.Parts.{frame_place}
use Rattle.encoder.proofs.Frames.{frame_most, frame_small}
use Rattle.oneshot.proofs.frame_place.Goals as goal
use Rattle.oneshot.proofs.frame_place.Goals.{After-frame_length}

small : (c : After-frame_length) → c.args.f * c.frame_length.result ≤ 2 ^ 32 * 2 ^ 16
small c = mul-le-mul {n₂ = 2 ^ 32} {m₂ = 2 ^ 16} (omega arith) (omega (arith, c.frame_length.ensures, frame_small c.args.channels frame_len c.requires.0 (omega arith), frame_most))

pub overflow_mul-result : goal.overflow_mul-result
overflow_mul-result c = omega (arith, small c)

pub overflow_add-result : goal.overflow_add-result
overflow_add-result c = omega (arith, small c)

pub returns : goal.returns
unfolding frame_place
returns c = rw c.frame_length.ensures
