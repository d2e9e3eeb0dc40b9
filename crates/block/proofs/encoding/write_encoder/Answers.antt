-- `block::encoding::write_encoder` meets its contract. Assumes nothing.
use Rattle.encoder.specs.Encoder.{encoder_view}
use Rattle.block.proofs.Layouts.{encoder_over}
use Rattle.block.proofs.encoding.write_encoder.Goals as goal

pub returns : goal.returns
unfolding encoder_view
returns c =
    rw (c.write_predictors.ensures, c.write_be-3.ensures, c.write_be-2.ensures, c.write_be.ensures) (encoder_over c.args.block.now (encoder_view c.args.e) c.requires)
