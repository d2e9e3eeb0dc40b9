-- The writer's reconstruction of a slice: the clamped sums of the chosen candidate's own run. It cites what was tried and the choice alone.
-- Assumes nothing.
use Rattle.std.specs.Prelude.{ℕ, List, [], ◌∷◌, ℤ}
use Rattle.lms.specs.declared.QoaLms.{QoaLms}
use Rattle.trial.specs.Trial.{tried}
use Rattle.search.specs.Search.{chosen}

-- the clamped sums of a run at a scale factor
unfoldable pub sums_tried : ℕ → QoaLms → List ℤ → List ℤ
sums_tried sf lms [] = []
sums_tried sf lms (x ∷ xs) = (tried lms x sf).sum ∷ sums_tried sf (tried lms x sf).lms xs

-- the predictor as that run leaves it
unfoldable pub lms_tried : ℕ → QoaLms → List ℤ → QoaLms
lms_tried sf lms [] = lms
lms_tried sf lms (x ∷ xs) = lms_tried sf (tried lms x sf).lms xs

unfoldable pub reconstructed : QoaLms → List ℤ → List ℤ
reconstructed lms xs = sums_tried (chosen lms xs).sf lms xs

unfoldable pub state_tried : QoaLms → List ℤ → QoaLms
state_tried lms xs = lms_tried (chosen lms xs).sf lms xs
