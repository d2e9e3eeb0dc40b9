-- What the parts of the code ask and answer. Assumes nothing.
use Rattle.std.specs.Prelude.{ℕ, ◌<◌, List}
use Rattle.lms.specs.Parts.{WeightsWithin}
use Rattle.lms.specs.declared.QoaLms.{QoaLms}
use Rattle.format.specs.Predictor.{lms_of}
use Rattle.word.specs.Parts.{written}
use Rattle.groups.specs.Channel.{run_after}
use Rattle.groups.specs.Groups.{word_at}

-- every used channel's weights are at most B in magnitude
abbrev pub AllWithin : ℕ → ℕ → List QoaLms → Type 0
AllWithin B c states = (j : ℕ) → j < c → WeightsWithin B (lms_of states j)

-- the predictors after g groups: those of the first c channels run over their slices, the others are as they were
unfoldable pub groups_states : List ℕ → ℕ → ℕ → List QoaLms → ℕ → List QoaLms
groups_states bs p c states g = written (λ j. run_after (word_at bs p c j) (lms_of states j) g) states 0 1 c
