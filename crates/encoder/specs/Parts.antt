-- What the parts of the code ask and answer. Assumes nothing.
use Rattle.std.specs.Prelude.{ℕ, ◌*◌, ◌≤◌, ◌<◌, ◌≡◌, List, ℤ, length}
use Rattle.std.specs.Prelude as P
use mathlib.Core.Option.{Option, none, some}
use Rattle.format.specs.Format.{frame_len, max_channels, most_rate}
use Rattle.encoder.specs.Encoder.{EncoderView}
use Rattle.encoder.specs.Frame.{first_wide, per_channel}

-- the channel that the code found, as the definitions write it
abbrev pub told_wide : P.Option ℕ → Option ℕ
told_wide P.None = none
told_wide (P.Some j) = some j

-- a frame that no rule refuses, but for the room
pub record FrameFits (v : EncoderView) (samples : List ℤ) : Type 0 where
  pub some_channels : 0 < v.channels
  pub few_channels : v.channels ≤ max_channels
  pub rate_fits : v.rate ≤ most_rate
  pub whole : per_channel v samples * v.channels ≡ length samples
  pub some_samples : 0 < per_channel v samples
  pub few_samples : per_channel v samples ≤ frame_len
  pub narrow : first_wide v.channels v.lms ≡ none
