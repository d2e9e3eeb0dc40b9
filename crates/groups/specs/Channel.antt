-- The slices of one channel, one after the other: `words g` is the word of slice g. Assumes nothing.
use Rattle.std.specs.Prelude.{ℕ, zero, suc, ◌/◌, ◌%◌, ℤ}
use Rattle.format.specs.Format.{slice_len}
use Rattle.lms.specs.declared.QoaLms.{QoaLms}
use Rattle.slice.specs.Slice.{sample_at, state_after}

-- the predictor after g slices: each runs all twenty updates
unfoldable pub run_after : (ℕ → ℕ) → QoaLms → ℕ → QoaLms
run_after words s zero = s
run_after words s (suc g) = state_after (words g) (run_after words s g) slice_len

-- the channel's k-th sample
unfoldable pub channel_at : (ℕ → ℕ) → QoaLms → ℕ → ℤ
channel_at words s k = sample_at (words (k / slice_len)) (run_after words s (k / slice_len)) (k % slice_len)
