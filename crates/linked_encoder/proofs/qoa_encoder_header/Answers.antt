-- `linked_encoder::qoa_encoder_header` meets its contract. Assumes nothing.
use mathlib.Core.Path.{ap, ◌∙◌}
use mir.Syntax.{w64}
use Rattle.wrap.proofs.Integers.{returned}
use Rattle.block.specs.EncoderBlock.{encoder_in}
use Rattle.codes.specs.Codes.{coded_encode}
use Rattle.linked_encoder.proofs.Linking.{head_read, head_refuses, head_unread}
use Rattle.linked_encoder.proofs.qoa_encoder_header.Goals as goal
use Rattle.linked_encoder.proofs.qoa_encoder_header.Goals.{In-Some}

pub returns-in_default : goal.returns-in_default
returns-in_default c =
    let args = c.args in
    head_unread args.state.now _ _ args.out.now (head_refuses (encoder_in args.state.now) args.out.now) c.in_default.ensures _ (returned w64 c.minus.result c.minus.type_inv c.minus.ensures)

pub returns : goal.returns
returns c =
    let args = c.args in
    let done = c.write_header in
    rw (← c.in-Some.ensures.1, done.ensures.1)
    (head_read args.state.now c.in-Some.ensures.0 _ _ args.out.now _ (returned w64 c.encoded.result c.encoded.type_inv (c.encoded.ensures ∙ ap coded_encode done.ensures.0)))
