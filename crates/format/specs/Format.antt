-- The format's numbers and lengths. Assumes nothing.
--
--   file    0        4         8
--           | 'qoaf' |  total  |   frame   |   frame   |  ..  |   frame   |  tail: 0 to 7 bytes
--
--   frame   0     1        4       6        8             24               8+16c                     8+24c
--           |  c  |  rate  |   n   |  size  |  state of   |  states of     |  a slice group:         |  the next groups ..
--           |  8  |   24   |  16   |   16   |  channel 0  |  channels 1 .. |  a slice of each        |
--           | bits|  bits  |  bits |  bits  |  16 bytes   |  16 bytes each |  channel, 8 bytes each  |
--
--   state   0      2      4      6      8      10     12     14
--           |  h0  |  h1  |  h2  |  h3  |  w0  |  w1  |  w2  |  w3  |    history and weights, signed 16-bit numbers
--
--   slice   bits 63..60      59..57   56..54        2..0
--           | scale factor | code 0 | code 1 | .. | code 19 |
use Rattle.std.specs.Prelude.{ℕ, ◌+◌, ◌-◌, ◌*◌, ◌/◌}

-- the most channels that a frame may have
abbrev pub max_channels : ℕ
max_channels = 8

-- the samples of a slice, the slices of a channel for which a frame has room, and the samples of a channel in a full frame
abbrev pub slice_len : ℕ
slice_len = 20

abbrev pub slices_per_frame : ℕ
slices_per_frame = 256

abbrev pub frame_len : ℕ
frame_len = slices_per_frame * slice_len

-- the most samples of a slice group, and so the most that a state holds as pending
abbrev pub pending_len : ℕ
pending_len = slice_len * max_channels

-- the highest rate that 24 bits hold
abbrev pub most_rate : ℕ
most_rate = 16777215

-- the most bytes of a whole file
abbrev pub most_bytes : ℕ
most_bytes = 4294967295

-- ceil(n/20), the slices of each channel
unfoldable pub slices_of : ℕ → ℕ
slices_of n = (n + (slice_len - 1)) / slice_len

-- where the slices of a frame start: after the header and four history and four weight numbers for each channel
unfoldable pub state_end : ℕ → ℕ
state_end c = 8 + 16 * c

-- 8+16c+8c*ceil(n/20), the bytes of a whole frame
unfoldable pub frame_length : ℕ → ℕ → ℕ
frame_length c n = state_end c + 8 * (c * slices_of n)
