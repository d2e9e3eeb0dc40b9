-- `block::encoding::is_readable` meets its contract. Assumes nothing.
use borrow.Author.Tests.{eq-eqb, ne_eqb}
use Rattle.block.specs.EncoderBlock.{is_encoder}
use Rattle.block.specs.Parts.{readable_encoder}
use Rattle.block.proofs.encoding.is_readable.Goals as goal

pub returns-then-block-eq-ENCODER_SIZE : goal.returns-then-block-eq-ENCODER_SIZE
unfolding readable_encoder is_encoder
returns-then-block-eq-ENCODER_SIZE c = simp (eq-eqb _ _ c.if-block-eq-ENCODER_SIZE.true)

pub returns-else-block-eq-ENCODER_SIZE : goal.returns-else-block-eq-ENCODER_SIZE
unfolding readable_encoder is_encoder
returns-else-block-eq-ENCODER_SIZE c = simp (ne_eqb _ _ c.if-block-eq-ENCODER_SIZE.false)
