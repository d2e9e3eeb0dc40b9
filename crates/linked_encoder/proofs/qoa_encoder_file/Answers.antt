-- `linked_encoder::qoa_encoder_file` meets its contract. Assumes nothing.
use borrow.Author.Rules.{rules}
use native.Mathlib.Omega.{arith}
use mathlib.Core.Path.{sym, subst, ap, ◌∙◌}
use lib.ListN.{length}
use mir.Syntax.{w64}
use Rattle.wrap.proofs.Integers.{returned}
use Rattle.encoder.specs.Calls.{Told}
use Rattle.oneshot.specs.Parts.{Small}
use Rattle.block.specs.EncoderBlock.{encoder_in}
use Rattle.codes.specs.Codes.{coded_encode}
use Rattle.word.proofs.BytesLaws.{be_lt_bits}
use Rattle.encoder.specs.Encoder.{EncoderView}
use Prim.Native.Nat.{◌<◌, ◌^◌}
use Rattle.block.proofs.Readable.{encoder_facts}
use Rattle.linked_encoder.proofs.Small.{file_told_small}
use Rattle.linked_encoder.proofs.Linking.{encode_read, encode_unread, file_refuses}
use Rattle.linked_encoder.proofs.qoa_encoder_file.Goals as goal
use Rattle.linked_encoder.proofs.qoa_encoder_file.Goals.{In-Some}

-- a total has 32 bits
total_small : (c : In-Some) → (encoder_in c.args.state.now).total < 2 ^ 32
unfolding encoder_in
total_small c =
    be_lt_bits 4 c.args.state.now 5 (λ i. search rules)

pub returns-in_default : goal.returns-in_default
returns-in_default c =
    let args = c.args in
    encode_unread args.state.now _ _ args.out.now (file_refuses (encoder_in args.state.now) args.samples.now args.out.now) c.in_default.ensures _ _ (returned w64 c.minus.result c.minus.type_inv c.minus.ensures)

pub keep-requires : goal.keep-requires
keep-requires c = omega (arith, (encoder_facts _ c.in-Some.ensures.0).long)

pub encoded-requires : goal.encoded-requires
encoded-requires c =
    let args = c.args in
    let total = subst (λ (v : EncoderView). v.total < 2 ^ 32) (sym c.in-Some.ensures.1) (total_small (goal.at.encoded-requires c).In-Some) in
    subst (λ (t : Told). Small t) (sym c.encode-shot.ensures.told) (file_told_small _ args.samples.now (length args.out.now) total)

pub returns : goal.returns
returns c =
    let args = c.args in
    let done = c.encode-shot in
    rw (← c.in-Some.ensures.1, done.ensures.memory)
    (encode_read args.state.now c.in-Some.ensures.0 _ _ args.out.now _
    (returned w64 c.encoded.result c.encoded.type_inv (c.encoded.ensures ∙ ap coded_encode done.ensures.told))
    _ _ _ _ (rw done.ensures.told at c.keep.ensures) done.ensures.back)
