-- A whole file in one shot: a file header, then frames of 5120 samples per channel, the last one shorter. Assumes nothing.
use Rattle.std.specs.Prelude.{ℕ, zero, suc, ◌+◌, ◌*◌, ◌-◌, ◌/◌, not, List, [], ◌∷◌, ◌++◌, eqb, ltb, ℤ, length, take, drop}
use mathlib.Core.Option.{Option, none, some}
use Rattle.refusal.specs.Rules.{Rule, ◌gives◌}
use Rattle.format.specs.Format.{frame_len, max_channels, slices_of, state_end}
use Rattle.encoder.specs.Encoder.{EncoderView, good_encoder}
use Rattle.encoder.specs.Frame.{after_frame, first_wide, frame_bytes, frame_sums}
use Rattle.encoder.specs.Head.{head_bytes}

-- frame f's samples, of c channels
unfoldable pub chunk : ℕ → List ℤ → ℕ → List ℤ
chunk c samples f = take (frame_len * c) (drop (frame_len * c * f) samples)

-- ceil(total/5120)
unfoldable pub frames_in : ℕ → ℕ
frames_in total = (total + (frame_len - 1)) / frame_len

abbrev pub frames_of : EncoderView → ℕ
frames_of v = frames_in v.total

-- the state before frame f
unfoldable pub state_before : EncoderView → List ℤ → ℕ → EncoderView
state_before v samples zero = v
state_before v samples (suc f) = after_frame (state_before v samples f) (chunk v.channels samples f)

-- the file header and the frames before frame f
unfoldable pub bytes_before : EncoderView → List ℤ → ℕ → List ℕ
bytes_before v samples zero = head_bytes v.total
bytes_before v samples (suc f) = bytes_before v samples f ++ frame_bytes (state_before v samples f) (chunk v.channels samples f)

-- all of them
abbrev pub file_bytes : EncoderView → List ℤ → List ℕ
file_bytes v samples = bytes_before v samples (frames_of v)

-- the writer's reconstruction of those frames
unfoldable pub sums_before : EncoderView → List ℤ → ℕ → List ℤ
sums_before v samples zero = []
sums_before v samples (suc f) = sums_before v samples f ++ frame_sums (state_before v samples f) (chunk v.channels samples f)

-- the exact need: the file header, a header and predictor states for each frame, and the slices
unfoldable pub need_of : ℕ → ℕ → ℕ
need_of c total = 8 + (frames_in total * state_end c + 8 * (c * slices_of total))

abbrev pub file_need : EncoderView → ℕ
file_need v = need_of v.channels v.total

-- ---- the refusals

-- 8; 13: the length is not total times channels; 7
unfoldable pub shot_rules : EncoderView → List ℤ → ℕ → List Rule
shot_rules v samples room =
    (not (good_encoder v) gives 8)
    ∷ (not (eqb (length samples) (v.total * v.channels)) gives 13)
    ∷ (ltb room (file_need v) gives 7)
    ∷ []

-- of the need alone: 11; 13
unfoldable pub need_rules : ℕ → ℕ → List Rule
need_rules c total =
    (eqb c 0 gives 11)
    ∷ (ltb max_channels c gives 11)
    ∷ (eqb total 0 gives 13)
    ∷ []

-- the first of so many frames that starts with a weight out of range, and its channel
pub record Stop : Type 0 where
  pub frame : ℕ
  pub channel : ℕ

abbrev pub or_stop : Option Stop → Option Stop → Option Stop
or_stop none o = o
or_stop (some s) o = some s

abbrev pub stop_at : ℕ → Option ℕ → Option Stop
stop_at f none = none
stop_at f (some j) = some (record { frame = f; channel = j })

unfoldable pub stop_in : EncoderView → List ℤ → ℕ → Option Stop
stop_in v samples zero = none
stop_in v samples (suc f) = or_stop (stop_in v samples f) (stop_at f (first_wide v.channels (state_before v samples f).lms))
