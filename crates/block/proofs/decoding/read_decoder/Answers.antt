-- `block::decoding::read_decoder` meets its contract. Assumes nothing.
use native.Mathlib.Omega.{arith}
use mathlib.Core.Path.{◌≡◌, refl, sym, ap, ◌∙◌}
use mathlib.Core.Bool.{true}
use Rattle.state.specs.declared.FrameFacts.{FrameFacts}
use Rattle.block.specs.DecoderBlock.{frame_in}
use Rattle.block.specs.Parts.{readable_decoder}
use Rattle.block.proofs.Readable.{DecoderFacts, decoder_facts, decoder_read}
use Rattle.block.proofs.decoding.read_decoder.Goals as goal
use Rattle.block.proofs.decoding.read_decoder.Goals.{Else-not-is_readable}

-- past the test the block is readable
yes : (c : Else-not-is_readable) → readable_decoder c.args.block.now ≡ true
yes c = sym c.is_readable.ensures ∙ c.if-not-is_readable.false

facts : (c : Else-not-is_readable) → DecoderFacts c.args.block.now
facts c = decoder_facts _ (yes c)

pub returns-then-not-is_readable : goal.returns-then-not-is_readable
returns-then-not-is_readable c = sym c.is_readable.ensures ∙ c.if-not-is_readable.true

pub read_frame-frame-requires : goal.read_frame-frame-requires
read_frame-frame-requires c = omega (arith, (facts c).long)

pub read_be-next-requires : goal.read_be-next-requires
read_be-next-requires c = omega (arith, (facts (goal.at.read_be-next-requires c).Else-not-is_readable).long)

pub read_be-end-requires : goal.read_be-end-requires
read_be-end-requires c = omega (arith, (facts (goal.at.read_be-end-requires c).Else-not-is_readable).long)

pub read_mode-requires : goal.read_mode-requires
read_mode-requires c = omega (arith, (facts (goal.at.read_mode-requires c).Else-not-is_readable).long)

pub read_be-requires : goal.read_be-requires
read_be-requires c = omega (arith, (facts (goal.at.read_be-requires c).Else-not-is_readable).long)

pub read_be-requires-2 : goal.read_be-requires-2
read_be-requires-2 c = omega (arith, (facts (goal.at.read_be-requires-2 c).Else-not-is_readable).long)

pub bounds-block-31 : goal.bounds-block-31
bounds-block-31 c = omega (arith, (facts (goal.at.bounds-block-31 c).Else-not-is_readable).long)

pub read_predictors-requires : goal.read_predictors-requires
unfolding frame_in
read_predictors-requires c =
    let used = ap (λ (f : FrameFacts). f.channels) c.read_frame-frame.ensures in
    omega (arith, (facts (goal.at.read_predictors-requires c).Else-not-is_readable).long, (facts (goal.at.read_predictors-requires c).Else-not-is_readable).few_channels, used)

pub read_pending-requires : goal.read_pending-requires
read_pending-requires c = omega (arith, (facts (goal.at.read_pending-requires c).Else-not-is_readable).long, (facts (goal.at.read_pending-requires c).Else-not-is_readable).few_pending, c.read_be-end.ensures)

pub returns : goal.returns
unfolding frame_in
returns c =
    let frame = c.read_frame-frame.ensures in
    (yes (goal.at.returns c).Else-not-is_readable, decoder_read _ _ c.read_mode.ensures c.read_be.ensures frame c.read_be-2.ensures c.read_be-next.ensures c.read_be-end.ensures refl c.read_predictors.ensures c.read_pending.ensures)
