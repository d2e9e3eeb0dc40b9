-- `linked_encoder::qoa_encoder_new` meets its contract. Assumes nothing.
use mathlib.Core.Path.{refl, ap, ◌∙◌}
use mir.Syntax.{w64}
use Rattle.wrap.proofs.Integers.{returned}
use Rattle.refusal.specs.Rules.{good}
use Rattle.refusal.specs.Lent.{laid_over}
use Rattle.encoder.specs.Encoder.{EncoderView}
use Rattle.encoder.proofs.Done.{was_created, was_refused}
use Rattle.block.specs.EncoderBlock.{encoder_bytes}
use Rattle.linked_encoder.proofs.Linking.{new_bad, new_done, new_good, new_refused, new_short}
use Rattle.refusal.specs.Refusals.{told_refusal}
use Rattle.linked_encoder.proofs.qoa_encoder_new.Goals as goal

pub returns-in-Err : goal.returns-in-Err
returns-in-Err c =
    let args = c.args in
    let made = c.new_encoder-created in
    let refused = was_refused _ _ _ made.result made.ensures _ (ap told_refusal c.in-Err.is) in
    new_refused _ _ _ args.state.now _ _ (new_bad _ _ _ args.state.now _ refused) (returned w64 c.minus.result c.minus.type_inv c.minus.ensures)

pub returns-then-state-lt-ENCODER_SIZE : goal.returns-then-state-lt-ENCODER_SIZE
returns-then-state-lt-ENCODER_SIZE c =
    let args = c.args in
    let made = c.new_encoder-created in
    let created = was_created _ _ _ made.result made.ensures (ap told_refusal c.in_default.is) in
    new_refused _ _ _ args.state.now 7 _ (new_short _ _ _ args.state.now created.0 c.if-state-lt-ENCODER_SIZE.true) (returned w64 c.minus-then-state-lt-ENCODER_SIZE.result c.minus-then-state-lt-ENCODER_SIZE.type_inv c.minus-then-state-lt-ENCODER_SIZE.ensures)

pub returns : goal.returns
returns c =
    let args = c.args in
    let made = c.new_encoder-created in
    let created = was_created _ _ _ made.result made.ensures (ap told_refusal c.in_default.is) in
    new_done _ _ _ args.state.now _ _ (new_good _ _ _ args.state.now created.0 c.if-state-lt-ENCODER_SIZE.false) refl
    (c.write_encoder.ensures ∙ ap (λ (v : EncoderView). laid_over args.state.now 0 (good (encoder_bytes v))) created.1)
