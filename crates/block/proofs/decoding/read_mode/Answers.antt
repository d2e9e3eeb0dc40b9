-- `block::decoding::read_mode` meets its contract. Assumes nothing.
use borrow.Author.Tests.{eq-eqb, ne_eqb}
use Rattle.block.specs.DecoderBlock.{mode_in}
use Rattle.block.proofs.decoding.read_mode.Goals as goal

pub returns-then-block-eq0 : goal.returns-then-block-eq0
unfolding mode_in
returns-then-block-eq0 c = rw (eq-eqb _ _ c.if-block-eq0.true)

pub returns : goal.returns
unfolding mode_in
returns c = rw (ne_eqb _ _ c.if-block-eq0.false, c.read_be.ensures, c.read_be-2.ensures)
