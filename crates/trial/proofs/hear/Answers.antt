-- `trial::hear` meets its contract, by those of the predictor's functions.
-- Assumes nothing.
use mathlib.Core.Path.{◌≡◌, ap₂, ◌∙◌}
use lib.IntN.{ℤ, ◌+ℤ◌}
use mir.Syntax.{w16, w32}
use mir.Facts.{to_z-of_z}
use Rattle.wrap.proofs.Integers.{reread, returned}
use Rattle.lms.specs.Predictor.{clamp16, predicted, updated}
use Rattle.lms.proofs.Bounds.{predicted_small}
use Rattle.trial.specs.Trial.{heard, sample_of}
use Rattle.trial.proofs.hear.Goals as goal
use Rattle.trial.proofs.hear.Goals.{After-predict, After-reconstruct-sample}

prediction : (c : After-predict) → reread w32 c.predict.result ≡ predicted c.args.lms
prediction c = returned w32 c.predict.result c.predict.type_inv c.predict.ensures

pub reconstruct-sample-requires : goal.reconstruct-sample-requires
reconstruct-sample-requires c =
    (rw (prediction c) (predicted_small c.args.lms), rw (to_z-of_z c.ranges.value) c.requires.1)

sample : (c : After-reconstruct-sample) → reread w16 c.reconstruct-sample.result ≡ sample_of c.args.lms c.args.value
unfolding sample_of
sample c = returned w16 c.reconstruct-sample.result c.reconstruct-sample.type_inv (c.reconstruct-sample.ensures ∙ ap₂ (λ (p v : ℤ). clamp16 (p +ℤ v)) (prediction c.before) (to_z-of_z c.ranges.value))

pub returns : goal.returns
unfolding heard
returns c =
    let next = c.update-next.ensures ∙ ap₂ (updated c.args.lms) (sample (goal.at.returns c).After-reconstruct-sample) (to_z-of_z c.ranges.value) in
    λ j. record { sample = sample (goal.at.returns c).After-reconstruct-sample j; lms = next j }
