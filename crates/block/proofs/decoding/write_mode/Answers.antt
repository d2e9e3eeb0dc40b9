-- `block::decoding::write_mode` meets its contract. Assumes nothing.
use mathlib.Core.Path.{ap, sym, ◌∙◌}
use Rattle.refusal.specs.Rules.{good}
use Rattle.refusal.specs.Lent.{laid_over}
use Rattle.state.specs.declared.ProcessingMode.{ProcessingMode}
use Rattle.block.specs.DecoderBlock.{mode_bytes}
use Rattle.block.proofs.decoding.write_mode.Goals as goal

pub returns-in-Streaming : goal.returns-in-Streaming
unfolding mode_bytes
returns-in-Streaming c =
    c.write_fixed.ensures ∙ ap (λ (m : ProcessingMode). laid_over c.args.block.now 0 (good (mode_bytes m))) (sym c.in-Streaming.is)

pub returns-in-FixedSamples : goal.returns-in-FixedSamples
unfolding mode_bytes
returns-in-FixedSamples c =
    c.write_fixed-in-FixedSamples.ensures ∙ ap (λ (m : ProcessingMode). laid_over c.args.block.now 0 (good (mode_bytes m))) (sym c.in-FixedSamples.is)
