-- What a readable block has, and the state that is read from it. Assumes nothing.
use Prim.Native.Nat.{ℕ, ◌+◌, ◌-◌, ◌≤◌}
use mathlib.Core.Bool.{Bool, true, false, ◌&&◌}
use mathlib.Core.List.{List}
use mathlib.Core.Path.{◌≡◌, ap, ap₂, ◌∙◌}
use borrow.Author.Tests.{eqb-true, leb-true}
use native.Mathlib.Omega.{arith}
use lib.Dec.{eqb, leb}
use lib.IntN.{pos}
use lib.ListN.{get_or, length}
use Rattle.word.specs.Bytes.{be16, be32, be64}
use Rattle.word.specs.Table.{table}
use Rattle.format.specs.Format.{max_channels, pending_len}
use Rattle.format.specs.Predictor.{lms_of}
use Rattle.state.specs.View.{view}
use Rattle.state.specs.declared.FrameFacts.{FrameFacts}
use Rattle.state.specs.declared.QoaDecoder.{QoaDecoder}
use Rattle.word.proofs.Belows.{and_left, and_right}
use Rattle.encoder.specs.Encoder as E
use Rattle.encoder.specs.declared.QoaEncoder.{QoaEncoder}
use Rattle.block.specs.DecoderBlock.{byte_in, decoder_in, decoder_size, frame_in, is_decoder, mode_in, sample_in}
use Rattle.block.specs.EncoderBlock.{encoder_in, encoder_size, is_encoder}
use Rattle.block.specs.Parts.{readable_decoder, readable_encoder}
use Rattle.block.specs.Predictors.{predictors_in}

-- no test both holds and fails
pub both_ways : {X : Type 0} (b : Bool) → b ≡ false → b ≡ true → X
both_ways b e f = let z : ◌≡◌ {A = ℕ} 0 1 = cc in absurd (omega arith)

pub record DecoderFacts (block : List ℕ) : Type 0 where
  pub long : length block ≡ decoder_size
  pub few_channels : byte_in block 18 ≤ max_channels
  pub few_pending : be16 block 29 ≤ pending_len

pub decoder_facts : (block : List ℕ) → readable_decoder block ≡ true → DecoderFacts block
unfolding readable_decoder is_decoder
decoder_facts block e =
    let state = and_left (is_decoder block) (leb (byte_in block 18) max_channels && leb (be16 block 29) pending_len) e in
    let places = and_right (is_decoder block) (leb (byte_in block 18) max_channels && leb (be16 block 29) pending_len) e in
    record {
      long = eqb-true (length block) decoder_size (and_left (eqb (length block) decoder_size) (leb (byte_in block 0) 1 && leb (byte_in block 31) 1) state);
      few_channels = leb-true (byte_in block 18) max_channels (and_left (leb (byte_in block 18) max_channels) (leb (be16 block 29) pending_len) places);
      few_pending = leb-true (be16 block 29) pending_len (and_right (leb (byte_in block 18) max_channels) (leb (be16 block 29) pending_len) places);
    }

pub record EncoderFacts (block : List ℕ) : Type 0 where
  pub long : length block ≡ encoder_size
  pub few_channels : byte_in block 0 ≤ max_channels

pub encoder_facts : (block : List ℕ) → readable_encoder block ≡ true → EncoderFacts block
unfolding readable_encoder is_encoder
encoder_facts block e = record {
  long = eqb-true (length block) encoder_size (and_left (is_encoder block) (leb (byte_in block 0) max_channels) e);
  few_channels = leb-true (byte_in block 0) max_channels (and_right (is_encoder block) (leb (byte_in block 0) max_channels) e);
}

-- ---- a state whose fields are the block's has the block's view

pub decoder_read : (block : List ℕ) (d : QoaDecoder)
    → d.mode ≡ mode_in block → d.at ≡ be64 block 10 → d.frame ≡ frame_in block → d.remaining ≡ be16 block 25 → d.next ≡ be16 block 27 → d.end ≡ be16 block 29
    → d.given ≡ eqb (byte_in block 31) 1
    → table d.frame.channels (lms_of d.lms) ≡ predictors_in block 32 d.frame.channels
    → table (d.end - d.next) (λ i. get_or d.pending (d.next + i) (pos 0)) ≡ table (d.end - d.next) (λ i. sample_in block (d.next + i))
    → view d ≡ decoder_in block
unfolding view decoder_in frame_in
decoder_read block d mode at frame remaining next end given lms pending =
    let used : table d.frame.channels (lms_of d.lms) ≡ predictors_in block 32 (byte_in block 18) = lms ∙ ap (λ (f : FrameFacts). predictors_in block 32 f.channels) frame in
    let held : table (d.end - d.next) (λ i. get_or d.pending (d.next + i) (pos 0)) ≡ table (be16 block 29 - be16 block 27) (λ i. sample_in block (be16 block 27 + i)) = pending ∙ ap₂ (λ (n e : ℕ). table (e - n) (λ i. sample_in block (n + i))) next end in
    λ i. record { mode = mode i; at = at i; frame = frame i; remaining = remaining i; next = next i; end = end i; pending = held i; given = given i; lms = used i }

pub encoder_read : (block : List ℕ) (e : QoaEncoder)
    → e.channels ≡ byte_in block 0 → e.rate ≡ be32 block 1 → e.total ≡ be32 block 5 → table e.channels (lms_of e.lms) ≡ predictors_in block 9 (byte_in block 0)
    → E.encoder_view e ≡ encoder_in block
unfolding encoder_in E.encoder_view
encoder_read block e channels rate total lms = λ i. record { channels = channels i; rate = rate i; total = total i; lms = lms i }
