-- A frame: its bytes, the state after it, its refusals, and the writer's reconstruction of it. Assumes nothing.
use Rattle.std.specs.Prelude.{ℕ, zero, suc, ◌*◌, ◌/◌, ◌%◌, not, cond, List, [], ◌∷◌, ◌++◌, eqb, ltb, ℤ, length}
use mathlib.Core.Option.{Option, none, some}
use Rattle.word.specs.Bytes.{bytes_of}
use Rattle.refusal.specs.Rules.{Rule, ◌gives◌}
use Rattle.word.specs.Table.{table}
use Rattle.lms.specs.declared.QoaLms.{QoaLms}
use Rattle.format.specs.Format.{frame_len, frame_length, slices_of}
use Rattle.format.specs.Header.{header_word}
use Rattle.format.specs.Predictor.{lms_of}
use Rattle.format.specs.declared.frame.FrameHeader.{FrameHeader}
use Rattle.lms.specs.Predictor.{all_short}
use Rattle.search.specs.Search.{strided}
use Rattle.body.specs.Channel.{lms_before, slice_word, sum_at}
use Rattle.body.specs.Laid.{laid, lms_bytes}
use Rattle.encoder.specs.Encoder.{EncoderView, good_encoder}

-- ---- the samples, n of each of c channels, interleaved

abbrev pub per_channel : EncoderView → List ℤ → ℕ
per_channel v samples = length samples / v.channels

-- those of channel j
abbrev pub channel_of : EncoderView → List ℤ → ℕ → List ℤ
channel_of v samples j = strided (per_channel v samples) samples j v.channels

-- ---- the bytes

-- the size field is the frame's length
abbrev pub header_for : EncoderView → ℕ → FrameHeader
header_for v n = record { channels = v.channels; rate = v.rate; samples = n; size = frame_length v.channels n }

abbrev pub state_bytes : EncoderView → List ℕ
state_bytes v = laid v.channels (λ j. lms_bytes (lms_of v.lms j))

-- slice group g: one slice of each channel in turn
abbrev pub group_bytes : EncoderView → List ℤ → ℕ → List ℕ
group_bytes v samples g = laid v.channels (λ j. bytes_of 8 (slice_word (lms_of v.lms j) (channel_of v samples j) g))

-- header, predictor states, slice groups
unfoldable pub frame_bytes : EncoderView → List ℤ → List ℕ
frame_bytes v samples =
    bytes_of 8 (header_word (header_for v (per_channel v samples)))
    ++ (state_bytes v
    ++ laid (slices_of (per_channel v samples)) (group_bytes v samples))

-- the state after it
unfoldable pub after_frame : EncoderView → List ℤ → EncoderView
after_frame v samples = record {
  channels = v.channels;
  rate = v.rate;
  total = v.total;
  lms = table v.channels (λ j. lms_before (lms_of v.lms j) (channel_of v samples j) (slices_of (per_channel v samples)));
}

-- the writer's reconstruction, interleaved as the samples are
unfoldable pub frame_sums : EncoderView → List ℤ → List ℤ
frame_sums v samples =
    table (per_channel v samples * v.channels) (λ k. sum_at (lms_of v.lms (k % v.channels)) (channel_of v samples (k % v.channels)) (k / v.channels))

-- ---- the refusals

-- 8; 13: empty, not a multiple of channels, or over 5120 per channel; 7
unfoldable pub encode_rules : EncoderView → List ℤ → ℕ → List Rule
encode_rules v samples room =
    (not (good_encoder v) gives 8)
    ∷ (eqb (length samples) 0 gives 13)
    ∷ (not (eqb (length samples % v.channels) 0) gives 13)
    ∷ (ltb frame_len (per_channel v samples) gives 13)
    ∷ (ltb room (frame_length v.channels (per_channel v samples)) gives 7)
    ∷ []

-- 14: the first of n channels with a weight outside of it
abbrev pub or_then : Option ℕ → Option ℕ → Option ℕ
or_then none o = o
or_then (some j) o = some j

unfoldable pub first_wide : ℕ → List QoaLms → Option ℕ
first_wide zero states = none
first_wide (suc n) states = or_then (first_wide n states) (cond (all_short (lms_of states n).weights) none (some n))
