-- What the parts of the code ask and answer. Assumes nothing.
use Rattle.std.specs.Prelude.{◌≡◌, Bool, true, false, ◌&&◌, List, ℕ, leb, Option, Some, None}
use Rattle.word.specs.Bytes.{be16}
use Rattle.format.specs.Format.{max_channels, pending_len}
use Rattle.state.specs.View.{view}
use Rattle.encoder.specs.Encoder as E
use Rattle.block.specs.DecoderBlock.{byte_in, decoder_in, is_decoder}
use Rattle.block.specs.EncoderBlock.{encoder_in, is_encoder}
use Rattle.encoder.specs.declared.QoaEncoder.{QoaEncoder}
use Rattle.state.specs.declared.QoaDecoder.{QoaDecoder}

-- a block whose channels and pending samples have a place in the code's state; the state rules refuse any other
unfoldable pub readable_decoder : List ℕ → Bool
readable_decoder block = is_decoder block && (leb (byte_in block 18) max_channels && leb (be16 block 29) pending_len)

unfoldable pub readable_encoder : List ℕ → Bool
readable_encoder block = is_encoder block && leb (byte_in block 0) max_channels

-- a state where the block can be read, whose view is the block's, and else none
abbrev pub Reads : {S V : Type 0} → (S → V) → Bool → V → Option S → Type 0
Reads view readable v None = readable ≡ false
Reads view readable v (Some s) = (readable ≡ true) × (view s ≡ v)

abbrev pub DecoderRead : List ℕ → Option QoaDecoder → Type 0
DecoderRead block r = Reads view (readable_decoder block) (decoder_in block) r

abbrev pub EncoderRead : List ℕ → Option QoaEncoder → Type 0
EncoderRead block r = Reads E.encoder_view (readable_encoder block) (encoder_in block) r
