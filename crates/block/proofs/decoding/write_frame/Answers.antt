-- `block::decoding::write_frame` meets its contract. Assumes nothing.
use native.Mathlib.Omega.{arith}
use Rattle.block.proofs.Layouts.{frame_over}
use Rattle.block.proofs.decoding.write_frame.Goals as goal

pub returns : goal.returns
returns c =
    rw (c.write_be-3.ensures, c.write_be-2.ensures, c.write_be.ensures) (frame_over c.args.block.now c.args.frame (omega arith))
