-- `block::decoding::write_decoder` meets its contract. Assumes nothing.
use Rattle.state.specs.View.{view}
use Rattle.block.proofs.Holding.{held_pending}
use Rattle.block.proofs.Layouts.{decoder_over}
use Rattle.block.proofs.decoding.write_decoder.Goals as goal

pub returns : goal.returns
unfolding view
returns c =
    rw (c.write_pending.ensures, c.write_predictors.ensures, c.write_rest.ensures, c.write_frame.ensures, c.write_be.ensures, c.write_mode.ensures, held_pending c.args.d) (decoder_over c.args.block.now (view c.args.d) c.requires)
