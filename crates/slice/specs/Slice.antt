-- A slice, decoded: the predictor after each sample, and the samples. Assumes nothing.
use Rattle.std.specs.Prelude.{ℕ, zero, suc, ℤ}
use Rattle.word.specs.Word.{scale_of, code_of}
use Rattle.lms.specs.Predictor.{at}
use Rattle.lms.specs.declared.QoaLms.{QoaLms}
use Rattle.scale.specs.Tables.{row_of}
use Rattle.trial.specs.Trial.{heard}

-- the table value of the i-th code of the slice w
abbrev pub residual_at : ℕ → ℕ → ℤ
residual_at w i = at (row_of (scale_of w)) (code_of w i)

-- the predictor after n samples of the slice w, from the predictor s
unfoldable pub state_after : ℕ → QoaLms → ℕ → QoaLms
state_after w s zero = s
state_after w s (suc n) = (heard (state_after w s n) (residual_at w n)).lms

-- the i-th sample
unfoldable pub sample_at : ℕ → QoaLms → ℕ → ℤ
sample_at w s i = (heard (state_after w s i) (residual_at w i)).sample
