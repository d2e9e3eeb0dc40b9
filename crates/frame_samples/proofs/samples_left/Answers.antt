-- `frame_samples::samples_left` meets its contract. Assumes nothing.
use mathlib.Core.Path.{refl}
use Rattle.state.specs.View.{view}
use Rattle.frame_samples.proofs.samples_left.Goals as goal

pub returns : goal.returns
unfolding view
returns c = refl
