-- The state rules of a decoder, for an input of so many bytes. Assumes nothing.
use Rattle.std.specs.Prelude.{ℕ, ◌+◌, ◌-◌, ◌*◌, Bool, true, ◌&&◌, ◌||◌, List, eqb, leb, nat_abs, length}
use Rattle.word.specs.Below.{below}
use Rattle.lms.specs.Predictor.{at, history_rule}
use Rattle.lms.specs.declared.QoaLms.{QoaLms}
use Rattle.format.specs.Format.{max_channels, most_rate, slice_len, slices_of}
use Rattle.format.specs.Predictor.{lms_of}
use Rattle.state.specs.View.{View, channels_of}
use Rattle.state.specs.declared.ProcessingMode.{ProcessingMode}
use Rattle.state.specs.declared.ProcessingMode.TheVariants.{FixedSamples, Streaming}

-- in fixed mode a total of at least 1 with the first frame's c and rate from 1 to their limits
unfoldable pub mode_rule : ProcessingMode → Bool
mode_rule (FixedSamples total c rate) = leb 1 total && (leb 1 c && (leb c max_channels && (leb 1 rate && leb rate most_rate)))
mode_rule Streaming = true

-- c at least 1 where samples remain
unfoldable pub some_channels : ℕ → ℕ → Bool
some_channels c remaining = leb 1 c || eqb remaining 0

-- weights at most a bound in magnitude
unfoldable pub weight_rule : ℕ → QoaLms → Bool
weight_rule bound lms = below (length lms.weights) (λ i. leb (nat_abs (at lms.weights i)) bound)

-- 32768 + 17920(3277 - ceil(r/20)), where r samples per channel remain
unfoldable pub weight_bound : ℕ → ℕ
weight_bound r = 32768 + 17920 * (3277 - slices_of r)

-- used histories in 16 bits, used weights within the bound
unfoldable pub lms_rule : ℕ → ℕ → List QoaLms → Bool
lms_rule c bound states = below c (λ j. history_rule (lms_of states j) && weight_rule bound (lms_of states j))

-- all of them, in FORMAT.md's order: place at most the byte count; the mode's; c at most the limit; c at least 1 where samples remain; remaining at most n;
-- next <= end <= 20c; the predictors'
unfoldable pub good_state : View → ℕ → Bool
good_state v bytes =
    leb v.at bytes
    && (mode_rule v.mode
    && (leb (channels_of v) max_channels
    && (some_channels (channels_of v) v.remaining
    && (leb v.remaining v.frame.samples
    && (leb v.next v.end
    && (leb v.end (slice_len * channels_of v)
    && lms_rule (channels_of v) (weight_bound v.remaining) v.lms))))))
