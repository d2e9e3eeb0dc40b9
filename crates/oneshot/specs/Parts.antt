-- What the parts of the code answer. Assumes nothing.
use Rattle.std.specs.Prelude.{ℕ, ◌+◌, ◌*◌, ◌<◌, ◌^◌}
use Rattle.format.specs.Format.{frame_len, frame_length}
use Rattle.encoder.specs.Calls.{Told, refuses, refuses_14, wrote}

-- where frame f of a file stands: after the file header and f full frames
unfoldable pub frame_place : ℕ → ℕ → ℕ
frame_place c f = 8 + f * frame_length c frame_len

-- a number of bytes that leaves room for a refusal's channel and number beside it
abbrev pub Small : Told → Type 0
Small (wrote n) = n < 2 ^ 40
Small (refuses n) = Unit {0}
Small (refuses_14 bytes channel) = bytes < 2 ^ 40
