-- A decoder's state as a block of bytes, numbers big-endian. Assumes nothing.
use Rattle.std.specs.Prelude.{ℕ, ◌+◌, ◌-◌, ◌*◌, Bool, cond, ◌&&◌, List, ◌++◌, eqb, leb, ltb, ℤ, pos, get_or, length}
use Rattle.std.specs.Int.{w16}
use mir.Val.{to_z}
use Rattle.wrap.specs.Wrap.{low16}
use Rattle.word.specs.Bytes.{be16, be32, be64, bytes_of}
use Rattle.word.specs.Table.{table}
use Rattle.format.specs.Format.{max_channels, pending_len}
use Rattle.body.specs.Laid.{laid}
use Rattle.state.specs.View.{View}
use Rattle.state.specs.declared.FrameFacts.{FrameFacts}
use Rattle.state.specs.declared.ProcessingMode.{ProcessingMode}
use Rattle.state.specs.declared.ProcessingMode.TheVariants.{FixedSamples, Streaming}
use Rattle.block.specs.Predictors.{predictors_bytes, predictors_in}

-- 32 bytes of fields, the predictors, twenty pending samples of 16 bits for each channel
abbrev pub decoder_size : ℕ
decoder_size = 32 + 72 * max_channels

abbrev pub byte_in : List ℕ → ℕ → ℕ
byte_in block p = get_or block p 0

-- ---- read

-- another length is no state, and neither is a mode or a flag over 1
unfoldable pub is_decoder : List ℕ → Bool
is_decoder block = eqb (length block) decoder_size && (leb (byte_in block 0) 1 && leb (byte_in block 31) 1)

-- in streaming mode the fields of the fixed one mean nothing
unfoldable pub mode_in : List ℕ → ProcessingMode
mode_in block = cond (eqb (byte_in block 0) 0) Streaming (FixedSamples (be32 block 1) (byte_in block 5) (be32 block 6))

unfoldable pub frame_in : List ℕ → FrameFacts
frame_in block = record { channels = byte_in block 18; rate = be32 block 19; samples = be16 block 23 }

-- the pending sample at a place
abbrev pub sample_in : List ℕ → ℕ → ℤ
sample_in block i = to_z w16 (be16 block (32 + 32 * max_channels + 2 * i))

-- the state's view
unfoldable pub decoder_in : List ℕ → View
decoder_in block = record {
  mode = mode_in block;
  at = be64 block 10;
  frame = frame_in block;
  remaining = be16 block 25;
  next = be16 block 27;
  end = be16 block 29;
  pending = table (be16 block 29 - be16 block 27) (λ i. sample_in block (be16 block 27 + i));
  given = eqb (byte_in block 31) 1;
  lms = predictors_in block 32 (byte_in block 18);
}

-- ---- written, as a function of the view

abbrev pub fixed_bytes : ℕ → ℕ → ℕ → ℕ → List ℕ
fixed_bytes mode total c rate = bytes_of 1 mode ++ (bytes_of 4 total ++ (bytes_of 1 c ++ bytes_of 4 rate))

unfoldable pub mode_bytes : ProcessingMode → List ℕ
mode_bytes Streaming = fixed_bytes 0 0 0 0
mode_bytes (FixedSamples total c rate) = fixed_bytes 1 total c rate

unfoldable pub facts_bytes : FrameFacts → List ℕ
facts_bytes f = bytes_of 1 f.channels ++ (bytes_of 4 f.rate ++ bytes_of 2 f.samples)

-- what remains, the range of the pending samples, and whether the first header was given
unfoldable pub rest_bytes : ℕ → ℕ → ℕ → Bool → List ℕ
rest_bytes remaining next end given = bytes_of 2 remaining ++ (bytes_of 2 next ++ (bytes_of 2 end ++ bytes_of 1 (cond given 1 0)))

-- the pending sample at a place, 0 outside of next..end
unfoldable pub pending_at : View → ℕ → ℤ
pending_at v i = cond (ltb i v.next) (pos 0) (get_or v.pending (i - v.next) (pos 0))

unfoldable pub pending_bytes : View → List ℕ
pending_bytes v = laid pending_len (λ i. bytes_of 2 (low16 (pending_at v i)))

unfoldable pub decoder_bytes : View → List ℕ
decoder_bytes v =
    mode_bytes v.mode
    ++ (bytes_of 8 v.at
    ++ (facts_bytes v.frame
    ++ (rest_bytes v.remaining v.next v.end v.given
    ++ (predictors_bytes v.lms
    ++ pending_bytes v))))
