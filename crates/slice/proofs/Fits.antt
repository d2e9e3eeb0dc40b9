-- What is decoded of a slice stays in 16 bits: every sample, and every history number of the predictor. Assumes nothing.
use Prim.Native.Nat.{ℕ, zero, suc}
use mir.Syntax.{w16}
use mir.Val.{SFits}
use Rattle.lms.specs.Parts.{HistoryFits}
use Rattle.lms.specs.declared.QoaLms.{QoaLms}
use Rattle.trial.specs.Trial.{heard}
use Rattle.trial.proofs.Bounds.{heard_fits, sample_fits}
use Rattle.slice.specs.Slice.{residual_at, sample_at, state_after}

pub state_fits : (w : ℕ) {s : QoaLms} → HistoryFits s → (n : ℕ) → HistoryFits (state_after w s n)
unfolding state_after
state_fits w f zero = f
state_fits w f (suc n) = heard_fits (residual_at w n) (state_fits w f n)

pub sample_at_fits : (w : ℕ) (s : QoaLms) (i : ℕ) → SFits w16 (sample_at w s i)
unfolding sample_at heard
sample_at_fits w s i = sample_fits (state_after w s i) (residual_at w i)
