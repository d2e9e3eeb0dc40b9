-- `block::encoding::read_encoder` meets its contract. Assumes nothing.
use native.Mathlib.Omega.{arith}
use mathlib.Core.Path.{◌≡◌, refl, sym, ◌∙◌}
use mathlib.Core.Bool.{true}
use Rattle.block.specs.Parts.{readable_encoder}
use Rattle.block.proofs.Readable.{EncoderFacts, encoder_facts, encoder_read}
use Rattle.block.proofs.encoding.read_encoder.Goals as goal
use Rattle.block.proofs.encoding.read_encoder.Goals.{Else-not-is_readable}

-- past the test the block is readable
yes : (c : Else-not-is_readable) → readable_encoder c.args.block.now ≡ true
yes c = sym c.is_readable.ensures ∙ c.if-not-is_readable.false

facts : (c : Else-not-is_readable) → EncoderFacts c.args.block.now
facts c = encoder_facts _ (yes c)

pub returns-then-not-is_readable : goal.returns-then-not-is_readable
returns-then-not-is_readable c = sym c.is_readable.ensures ∙ c.if-not-is_readable.true

pub bounds-block-0 : goal.bounds-block-0
bounds-block-0 c = omega (arith, (facts (goal.at.bounds-block-0 c).Else-not-is_readable).long)

pub read_be-requires : goal.read_be-requires
read_be-requires c = omega (arith, (facts (goal.at.read_be-requires c).Else-not-is_readable).long)

pub read_be-requires-2 : goal.read_be-requires-2
read_be-requires-2 c = omega (arith, (facts (goal.at.read_be-requires-2 c).Else-not-is_readable).long)

pub read_predictors-requires : goal.read_predictors-requires
read_predictors-requires c = omega (arith, (facts (goal.at.read_predictors-requires c).Else-not-is_readable).long, (facts (goal.at.read_predictors-requires c).Else-not-is_readable).few_channels)

pub returns : goal.returns
returns c =
    (yes (goal.at.returns c).Else-not-is_readable, encoder_read _ _ refl c.read_be.ensures c.read_be-2.ensures c.read_predictors.ensures)
