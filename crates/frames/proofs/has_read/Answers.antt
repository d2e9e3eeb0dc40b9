-- `frames::has_read` meets its contract. Assumes nothing.
use mathlib.Core.Path.{ap, sym}
use Rattle.state.specs.View.{view}
use Rattle.state.specs.declared.ProcessingMode.{ProcessingMode}
use Rattle.frames.specs.Frames.{read_in}
use Rattle.frames.proofs.has_read.Goals as goal

pub returns-in-Streaming : goal.returns-in-Streaming
unfolding view
returns-in-Streaming c =
    let d = c.args.d in
    sym (ap (λ (m : ProcessingMode). read_in m d.frame.channels) c.in-Streaming.is)

pub returns-in-FixedSamples : goal.returns-in-FixedSamples
unfolding view
returns-in-FixedSamples c =
    let d = c.args.d in
    sym (ap (λ (m : ProcessingMode). read_in m d.frame.channels) c.in-FixedSamples.is)
