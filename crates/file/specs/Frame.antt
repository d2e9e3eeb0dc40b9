-- The samples of a frame, from the frame's bytes. Assumes nothing.
use Rattle.std.specs.Prelude.{ℕ, ◌+◌, ◌*◌, List, ℤ}
use Rattle.word.specs.Table.{table}
use Rattle.lms.specs.declared.QoaLms.{QoaLms}
use Rattle.format.specs.Format.{state_end}
use Rattle.format.specs.Header.{header_at}
use Rattle.format.specs.Predictor.{lms_at}
use Rattle.format.specs.declared.frame.FrameHeader.{FrameHeader}
use Rattle.groups.specs.Groups.{groups_at}

-- the predictor that the frame states for each channel
unfoldable pub frame_states : List ℕ → List QoaLms
frame_states f = table (header_at f 0).channels (λ j. lms_at f (8 + 16 * j))

-- how many samples a frame has, by its header: n for each channel
abbrev pub count_of : FrameHeader → ℕ
count_of h = h.samples * h.channels

-- n samples of each channel, interleaved
unfoldable pub frame_samples : List ℕ → List ℤ
frame_samples f = let h = header_at f 0 in table (count_of h) (groups_at f (state_end h.channels) h.channels (frame_states f))
