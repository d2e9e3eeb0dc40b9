-- An encoder's state as a block of bytes, numbers big-endian. Assumes nothing.
use Rattle.std.specs.Prelude.{ℕ, ◌+◌, ◌*◌, Bool, List, ◌++◌, eqb, length}
use Rattle.word.specs.Bytes.{be32, bytes_of}
use Rattle.format.specs.Format.{max_channels}
use Rattle.encoder.specs.Encoder.{EncoderView}
use Rattle.block.specs.DecoderBlock.{byte_in}
use Rattle.block.specs.Predictors.{predictors_bytes, predictors_in}

-- 9 bytes of fields and the predictors
abbrev pub encoder_size : ℕ
encoder_size = 9 + 32 * max_channels

-- another length is no state
unfoldable pub is_encoder : List ℕ → Bool
is_encoder block = eqb (length block) encoder_size

-- read: the state's view
unfoldable pub encoder_in : List ℕ → EncoderView
encoder_in block = record { channels = byte_in block 0; rate = be32 block 1; total = be32 block 5; lms = predictors_in block 9 (byte_in block 0) }

-- written, as a function of the view
unfoldable pub encoder_bytes : EncoderView → List ℕ
encoder_bytes v = bytes_of 1 v.channels ++ (bytes_of 4 v.rate ++ (bytes_of 4 v.total ++ predictors_bytes v.lms))
