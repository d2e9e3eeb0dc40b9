-- `block::decoding::write_fixed` meets its contract. Assumes nothing.
use native.Mathlib.Omega.{arith}
use Rattle.block.proofs.Layouts.{fixed_over}
use Rattle.block.proofs.decoding.write_fixed.Goals as goal

pub returns : goal.returns
returns c =
    rw (c.write_be-4.ensures, c.write_be-3.ensures, c.write_be-2.ensures, c.write_be.ensures)
    (fixed_over c.args.block.now c.args.mode c.args.total c.args.channels c.args.rate (omega arith))
