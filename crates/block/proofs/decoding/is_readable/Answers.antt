-- `block::decoding::is_readable` meets its contract. Assumes nothing.
use borrow.Author.Tests.{eq-eqb, le-leb, lt-leb, ne_eqb}
use Rattle.block.specs.DecoderBlock.{is_decoder}
use Rattle.block.specs.Parts.{readable_decoder}
use Rattle.block.proofs.decoding.is_readable.Goals as goal
use Rattle.block.proofs.decoding.is_readable.Goals.{then-block-ne-DECODER_SIZE-via-then-block-ne-DECODER_SIZE, then-block-ne-DECODER_SIZE-via-else-block-ne-DECODER_SIZE+then-block-gt1, then-block-ne-DECODER_SIZE-via-else-block-ne-DECODER_SIZE+else-block-gt1+then-block-gt1-2, then-block-ne-DECODER_SIZE-via-else-block-ne-DECODER_SIZE+else-block-gt1+else-block-gt1-2+then-block-gt-QOA_MAX_CHANNELS}

pub returns-then-block-ne-DECODER_SIZE : goal.returns-then-block-ne-DECODER_SIZE
unfolding readable_decoder is_decoder
returns-then-block-ne-DECODER_SIZE c =
    elim c.then-block-ne-DECODER_SIZE.branch [
      | then-block-ne-DECODER_SIZE-via-then-block-ne-DECODER_SIZE w ↦ simp (ne_eqb _ _ w.if-block-ne-DECODER_SIZE.true)
      | then-block-ne-DECODER_SIZE-via-else-block-ne-DECODER_SIZE+then-block-gt1 w ↦ simp (eq-eqb _ _ w.if-block-ne-DECODER_SIZE.false, lt-leb _ _ w.if-block-gt1.true)
      | then-block-ne-DECODER_SIZE-via-else-block-ne-DECODER_SIZE+else-block-gt1+then-block-gt1-2 w ↦ simp (eq-eqb _ _ w.if-block-ne-DECODER_SIZE.false, le-leb _ _ w.if-block-gt1.false, lt-leb _ _ w.if-block-gt1-2.true)
      | then-block-ne-DECODER_SIZE-via-else-block-ne-DECODER_SIZE+else-block-gt1+else-block-gt1-2+then-block-gt-QOA_MAX_CHANNELS w ↦ simp (eq-eqb _ _ w.if-block-ne-DECODER_SIZE.false, le-leb _ _ w.if-block-gt1.false, le-leb _ _ w.if-block-gt1-2.false, lt-leb _ _ w.if-block-gt-QOA_MAX_CHANNELS.true)
    ]

pub returns : goal.returns
unfolding readable_decoder is_decoder
returns c = simp (eq-eqb _ _ c.if-block-ne-DECODER_SIZE.false, le-leb _ _ c.if-block-gt1.false, le-leb _ _ c.if-block-gt1-2.false, le-leb _ _ c.if-block-gt-QOA_MAX_CHANNELS.false, c.read_be.ensures)
