-- `linked_decoder::qoa_decoder_open` meets its contract. Assumes nothing.
use mathlib.Core.Path.{refl, sym, ap, ◌∙◌}
use mir.Syntax.{w64}
use Rattle.wrap.proofs.Integers.{returned}
use Rattle.refusal.specs.Refusals.{told_refusal}
use Rattle.state.specs.View.{View}
use Rattle.refusal.specs.Rules.{good}
use Rattle.refusal.specs.Lent.{laid_over}
use Rattle.block.specs.DecoderBlock.{decoder_bytes}
use Rattle.linked_decoder.proofs.Linking.{open_bad, open_done, open_good, open_refused, open_short, opened}
use Rattle.linked_decoder.proofs.qoa_decoder_open.Goals as goal

pub returns-then-state-lt-DECODER_SIZE : goal.returns-then-state-lt-DECODER_SIZE
returns-then-state-lt-DECODER_SIZE c =
    let args = c.args in
    let made = c.open_decoder-opened in
    let quiet = sym made.ensures.0 ∙ ap told_refusal c.in_default.is in
    open_refused args.bytes.now args.state.now 7 _ (open_short _ args.state.now quiet c.if-state-lt-DECODER_SIZE.true) (returned w64 c.minus-then-state-lt-DECODER_SIZE.result c.minus-then-state-lt-DECODER_SIZE.type_inv c.minus-then-state-lt-DECODER_SIZE.ensures)

pub returns-in-Err : goal.returns-in-Err
returns-in-Err c =
    let args = c.args in
    let made = c.open_decoder-opened in
    let fired = sym made.ensures.0 ∙ ap told_refusal c.in-Err.is in
    open_refused args.bytes.now args.state.now _ _ (open_bad _ args.state.now _ fired) (returned w64 c.minus.result c.minus.type_inv c.minus.ensures)

pub returns : goal.returns
returns c =
    let args = c.args in
    let made = c.open_decoder-opened in
    let quiet = sym made.ensures.0 ∙ ap told_refusal c.in_default.is in
    open_done args.bytes.now args.state.now _ _ (open_good _ args.state.now quiet c.if-state-lt-DECODER_SIZE.false) refl
    (c.write_decoder.ensures ∙ ap (λ (v : View). laid_over args.state.now 0 (good (decoder_bytes v))) (opened _ _ _ quiet made.ensures.1))
