-- One sample more of a slice, for the loops that store. Assumes nothing.
use mathlib.Core.Path.{◌≡◌}
use mathlib.Core.List.{List}
use Prim.Native.Nat.{ℕ, ◌+◌, ◌*◌}
use native.Mathlib.Numerals.{add-one}
use lib.IntN.{ℤ, ◌+ℤ◌}
use lib.ListN.{set}
use Rattle.word.specs.Parts.{written}
use Rattle.lms.specs.Predictor.{clamp16, predicted, updated}
use Rattle.lms.specs.declared.QoaLms.{QoaLms}
use Rattle.trial.specs.Trial.{heard, sample_of}
use Rattle.slice.specs.Slice.{residual_at, sample_at, state_after}
use Rattle.slice.specs.Parts.{HeardTo}

-- a sample that is the clamped sum goes on from any predictor and memory that came so far
pub heard_next : (w : ℕ) (s : QoaLms) (o : List ℤ) (start stride i : ℕ) (state : QoaLms) (out : List ℤ) (x : ℤ) → x ≡ clamp16 (predicted state +ℤ residual_at w i)
    → HeardTo w s o start stride i state out → HeardTo w s o start stride (i + 1) (updated state x (residual_at w i)) (set out (start + i * stride) x)
unfolding state_after sample_at written heard sample_of
heard_next w s o start stride i state out x x-is so_far = (rw (add-one, x-is, so_far.0), rw (add-one, x-is, so_far.0, so_far.1))
