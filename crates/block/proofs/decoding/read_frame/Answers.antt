-- `block::decoding::read_frame` meets its contract. Assumes nothing.
use lib.ListN.{get_or}
use Rattle.block.specs.DecoderBlock.{frame_in}
use Rattle.block.proofs.decoding.read_frame.Goals as goal

pub returns : goal.returns
unfolding frame_in
returns c = λ j. record { channels = get_or c.args.block.now 18 0; rate = c.read_be.ensures j; samples = c.read_be-2.ensures j }
