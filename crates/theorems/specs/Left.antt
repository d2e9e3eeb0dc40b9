-- What an accepted call of the encoder leaves in the lent output. Assumes nothing.
use Rattle.std.specs.Prelude.{ℕ, ◌≡◌, List, ℤ, take}
use Rattle.encoder.specs.Encoder.{EncoderView, encoder_view}
use Rattle.encoder.specs.Frame.{after_frame, frame_bytes}
use Rattle.encoder.specs.declared.QoaEncoder.{QoaEncoder}
use Rattle.theorems.specs.Finished.{Accepted, Finished, bytes_in, given_in, start_in}

-- after a call for a frame: the frame's bytes up to the count, and a state that the next frame of a file starts from
pub record FrameLeft (e : QoaEncoder) (samples : List ℤ) (count : ℕ) (state : QoaEncoder) (left : List ℕ) : Type 0 where
  pub accepted : Accepted (encoder_view e) samples
  pub bytes : take count left ≡ frame_bytes (encoder_view e) samples
  pub next : encoder_view state ≡ after_frame (encoder_view e) samples

-- after a one-shot call: up to the count a finished file, from the state and the samples that were given
pub record FileLeft (v : EncoderView) (samples : List ℤ) (count : ℕ) (left : List ℕ) : Type 0 where
  pub file : Finished
  pub start : start_in file ≡ v
  pub given : given_in file ≡ samples
  pub bytes : take count left ≡ bytes_in file
