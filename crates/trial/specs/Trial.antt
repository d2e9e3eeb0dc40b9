-- One sample, as a decoder hears it and as an encoder tries it at a scale factor.
-- Assumes nothing.
use Rattle.std.specs.Prelude.{ℕ, ℤ, ◌+ℤ◌, ◌-ℤ◌}
use Rattle.lms.specs.Predictor.{at, clamp16, cost_of, penalty_of, predicted, updated}
use Rattle.lms.specs.declared.QoaLms.{QoaLms}
use Rattle.scale.specs.Division.{code_for, divided_by}
use Rattle.scale.specs.Tables.{row_of}
use Rattle.trial.specs.declared.Heard.{Heard}
use Rattle.trial.specs.declared.Tried.{Tried}

-- ---- heard

-- reconstruction: prediction plus table value, clamped to 16 bits
unfoldable pub sample_of : QoaLms → ℤ → ℤ
sample_of lms value = clamp16 (predicted lms +ℤ value)

-- the sample that a table value stands for, with the predictor after it
unfoldable pub heard : QoaLms → ℤ → Heard
heard lms value = record { sample = sample_of lms value; lms = updated lms (sample_of lms value) value }

-- ---- tried

-- the code that a scale factor gives a sample, and its table value
unfoldable pub code_tried : QoaLms → ℤ → ℕ → ℕ
code_tried lms sample sf = code_for (divided_by (sample -ℤ predicted lms) sf)

unfoldable pub value_tried : QoaLms → ℤ → ℕ → ℤ
value_tried lms sample sf = at (row_of sf) (code_tried lms sample sf)

-- the clamped sum that the trial comes to
unfoldable pub sum_tried : QoaLms → ℤ → ℕ → ℤ
sum_tried lms sample sf = clamp16 (predicted lms +ℤ value_tried lms sample sf)

-- a trial: the code, the clamped sum, the cost with the penalty taken before the update, and the predictor after it
unfoldable pub tried : QoaLms → ℤ → ℕ → Tried
tried lms sample sf = record {
  code = code_tried lms sample sf;
  sum = sum_tried lms sample sf;
  cost = cost_of sample (sum_tried lms sample sf) (penalty_of lms);
  lms = updated lms (sum_tried lms sample sf) (value_tried lms sample sf);
}
