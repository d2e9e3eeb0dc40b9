-- `linked_encoder::qoa_encoder_frame` meets its contract. Assumes nothing.
use native.Mathlib.Omega.{arith}
use mathlib.Core.Path.{sym, subst, ap, ◌∙◌}
use lib.ListN.{length}
use mir.Syntax.{w64}
use Rattle.wrap.proofs.Integers.{returned}
use Rattle.encoder.specs.Calls.{Told}
use Rattle.oneshot.specs.Parts.{Small}
use Rattle.block.specs.EncoderBlock.{encoder_in}
use Rattle.codes.specs.Codes.{coded_encode}
use Rattle.block.proofs.Readable.{encoder_facts}
use Rattle.linked_encoder.proofs.Small.{frame_told_small}
use Rattle.linked_encoder.proofs.Linking.{encode_read, encode_unread, frame_refuses}
use Rattle.linked_encoder.proofs.qoa_encoder_frame.Goals as goal
use Rattle.linked_encoder.proofs.qoa_encoder_frame.Goals.{In-Some}

pub returns-in_default : goal.returns-in_default
returns-in_default c =
    let args = c.args in
    encode_unread args.state.now _ _ args.out.now (frame_refuses (encoder_in args.state.now) args.samples.now args.out.now) c.in_default.ensures _ _ (returned w64 c.minus.result c.minus.type_inv c.minus.ensures)

pub keep-requires : goal.keep-requires
keep-requires c = omega (arith, (encoder_facts _ c.in-Some.ensures.0).long)

pub encoded-requires : goal.encoded-requires
encoded-requires c =
    let args = c.args in
    subst (λ (t : Told). Small t) (sym c.encode_frame-done.ensures.told) (frame_told_small _ args.samples.now (length args.out.now))

pub returns : goal.returns
returns c =
    let args = c.args in
    let done = c.encode_frame-done in
    rw (← c.in-Some.ensures.1, done.ensures.memory)
    (encode_read args.state.now c.in-Some.ensures.0 _ _ args.out.now _
    (returned w64 c.encoded.result c.encoded.type_inv (c.encoded.ensures ∙ ap coded_encode done.ensures.told))
    _ _ _ _ (rw done.ensures.told at c.keep.ensures) done.ensures.back)
