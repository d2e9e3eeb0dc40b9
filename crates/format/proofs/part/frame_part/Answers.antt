-- `format::part::frame_part` meets its contract: a whole part lies within the bytes, so the part can be taken. Assumes nothing.
use mathlib.Core.Path.{sym}
use native.Mathlib.Omega.{arith}
use Rattle.format.proofs.Parts.{part_within}
use Rattle.format.proofs.part.frame_part.Goals as goal

pub overflow_add-result : goal.overflow_add-result
overflow_add-result c = omega (arith, part_within _ _ _ (sym c.in-Ok.ensures))

pub slice_bounds-result-end-in-Ok : goal.slice_bounds-result-end-in-Ok
slice_bounds-result-end-in-Ok c = part_within _ _ _ (sym c.in-Ok.ensures)
