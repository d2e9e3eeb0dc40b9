-- `encoder::create::fresh_encoder` meets its contract: each of the used channels has a new predictor. Assumes nothing.
use mathlib.Core.Path.{ap}
use mathlib.Core.List.{List}
use native.Mathlib.Omega.{arith}
use lib.ListN.{replicate, get_or-replicate}
use Rattle.format.specs.Format.{max_channels}
use Rattle.word.proofs.Tables.{table_ext}
use Rattle.lms.specs.Predictor.{new_lms}
use Rattle.lms.specs.declared.QoaLms.{QoaLms}
use Rattle.format.specs.Predictor.{lms_of, no_lms}
use Rattle.encoder.specs.Encoder.{EncoderView, new_view, encoder_view}
use Rattle.encoder.proofs.create.fresh_encoder.Goals as goal

pub returns : goal.returns
unfolding encoder_view new_view
returns c =
    let args = c.args in
    rw c.new_lms.ensures
    (ap {B = EncoderView} (λ (l : List QoaLms). record { channels = args.channels; rate = args.rate; total = args.total; lms = l })
    (table_ext args.channels (lms_of (replicate max_channels new_lms)) (λ j. new_lms) (λ j h. get_or-replicate max_channels j new_lms no_lms (omega (arith, c.requires)))))
