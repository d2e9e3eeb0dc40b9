-- How far decoding a slice moves the weights: 896 a sample, 17920 in all. Assumes nothing.
use Prim.Native.Nat.{ℕ, zero, suc, ◌+◌, ◌*◌, ◌≤◌}
use native.Mathlib.Omega.{arith}
use lib.IntN.{nat_abs}
use Rattle.word.specs.Word.{scale_of, code_of}
use Rattle.lms.specs.Parts.{WeightsWithin}
use Rattle.lms.specs.declared.QoaLms.{QoaLms}
use Rattle.lms.proofs.Bounds.{within_more}
use Rattle.scale.proofs.Bounds.{row_small}
use Rattle.trial.proofs.Bounds.{heard_within}
use Rattle.slice.specs.Slice.{residual_at, state_after}

pub residual_small : (w i : ℕ) → nat_abs (residual_at w i) ≤ 14336
residual_small w i = row_small (scale_of w) (code_of w i) (omega arith) (omega arith)

pub state_within : {B : ℕ} (w : ℕ) {s : QoaLms} → WeightsWithin B s → (n : ℕ) → WeightsWithin (B + 896 * n) (state_after w s n)
unfolding state_after
state_within w h zero = within_more (omega arith) h
state_within w h (suc n) = within_more (omega arith) (heard_within (residual_at w n) (residual_small w n) (state_within w h n))

pub slice_within : {B : ℕ} (w : ℕ) {s : QoaLms} → WeightsWithin B s → WeightsWithin (B + 17920) (state_after w s 20)
slice_within w h = state_within w h 20
