-- Laws of a frame: its length, its bytes and the state after it, in terms of the state that the code holds. Assumes nothing.
use Prim.Native.Nat.{ℕ, ◌+◌, ◌*◌, ◌/◌, ◌^◌, ◌≤◌, ◌<◌}
use mathlib.Core.Path.{◌≡◌, ap, ap₂, sym, ◌∙◌}
use mathlib.Core.Bool.{true}
use mathlib.Core.List.{List, ◌++◌, append_assoc}
use native.Mathlib.Nat.{mul-le-mul}
use native.Mathlib.Omega.{arith}
use lib.Dec.{lit<}
use lib.IntN.{ℤ}
use lib.ListN.{length, length-append}
use Rattle.word.specs.Bytes.{bytes_of}
use Rattle.word.proofs.BytesLaws.{length_bytes}
use Rattle.word.proofs.Tables.{get_or_table, length_table, table_ext}
use Rattle.lms.specs.Parts.{WeightsWithin}
use Rattle.lms.specs.declared.QoaLms.{QoaLms}
use Rattle.format.specs.Format.{frame_len, frame_length, max_channels, slices_of, slices_per_frame, state_end}
use Rattle.format.specs.Header.{header_word}
use Rattle.format.specs.Predictor.{lms_of, no_lms}
use Rattle.search.specs.Search.{strided}
use Rattle.search.proofs.Fitting.{strided_length}
use Rattle.encoder.specs.Encoder.{EncoderView, encoder_view, good_encoder}
use Rattle.body.specs.Channel.{lms_before, slice_word}
use Rattle.refusal.specs.Rules.{good}
use Rattle.refusal.specs.Lent.{laid_over}
use Rattle.body.specs.Laid.{laid, lms_bytes}
use Rattle.encoder.specs.Frame.{after_frame, channel_of, first_wide, frame_bytes, frame_sums, group_bytes, header_for, per_channel, state_bytes}
use Rattle.encoder.specs.Parts.{FrameFits}
use Rattle.encoder.specs.declared.QoaEncoder.{QoaEncoder}
use Rattle.body.proofs.Channels.{before_fits}
use Rattle.encoder.proofs.GoodEncoders.{Good, facts_good, view_lms}
use Rattle.body.proofs.Laids.{laid_ext, length_laid, length_states, length_words}
use Rattle.refusal.proofs.Lents.{over_put, over_then}
use Rattle.encoder.proofs.Wides.{short_within, wide_ext, wide_none}
use Rattle.word.specs.Parts.{put}

-- ---- lengths

module _ (v : EncoderView) (samples : List ℤ) where
  pub length_frame : length (frame_bytes v samples) ≡ frame_length v.channels (per_channel v samples)
  unfolding frame_bytes frame_length state_end
  length_frame =
      let c = v.channels in
      let n = per_channel v samples in
      let head = bytes_of 8 (header_word (header_for v n)) in
      let groups = laid (slices_of n) (group_bytes v samples) in
      let long : length groups ≡ slices_of n * (c * 8) = length_laid (c * 8) (slices_of n) (group_bytes v samples) (λ g. length_words c (λ j. slice_word (lms_of v.lms j) (channel_of v samples j) g)) in
      omega (arith, length-append head (state_bytes v ++ groups), length-append (state_bytes v) groups, length_bytes 8 (header_word (header_for v n)), length_states c (lms_of v.lms), long)

  pub length_sums : length (frame_sums v samples) ≡ per_channel v samples * v.channels
  unfolding frame_sums
  length_sums = length_table (per_channel v samples * v.channels) _

-- no frame is longer than a full one with the most channels, whose length has 16 bits
pub frame_small : (c n : ℕ) → c ≤ max_channels → n ≤ frame_len → frame_length c n ≤ frame_length max_channels frame_len
unfolding frame_length state_end slices_of
frame_small c n hc hn = let few : slices_of n ≤ slices_per_frame = omega arith in omega (arith, mul-le-mul hc few)

pub frame_most : frame_length max_channels frame_len < 2 ^ 16
unfolding frame_length state_end slices_of
frame_most = lit< tt

-- ---- what the code stores, one part behind the other

pub frame_over : (out : List ℕ) (p w k : ℕ) (s g : List ℕ) → length s ≡ k → p + (8 + k) ≤ length out
    → laid_over (laid_over (put 8 out p w) (p + 8) (good s)) (p + (8 + k)) (good g) ≡ laid_over out p (good (bytes_of 8 w ++ (s ++ g)))
frame_over out p w k s g long room =
    let head = bytes_of 8 w in
    let eight = length_bytes 8 w in
    let both = length-append head s in
    ap (λ (o : List ℕ). laid_over (laid_over o (p + 8) (good s)) (p + (8 + k)) (good g)) (over_put out p 8 w (omega arith))
    ∙ ap (λ (o : List ℕ). laid_over o (p + (8 + k)) (good g)) (over_then out p (p + 8) head s (omega arith) (omega arith))
    ∙ over_then out p (p + (8 + k)) (head ++ s) g (omega arith) (omega arith)
    ∙ ap (λ (l : List ℕ). laid_over out p (good l)) (append_assoc head s g)

module _ (e : QoaEncoder) (samples : List ℤ) where
  abbrev many : ℕ
  many = length samples / e.channels

  -- channel j's samples
  abbrev mine : ℕ → List ℤ
  mine j = strided many samples j e.channels

  pub frame_of : frame_bytes (encoder_view e) samples
      ≡ bytes_of 8 (header_word record { channels = e.channels; rate = e.rate; samples = many; size = frame_length e.channels many })
      ++ (laid e.channels (λ j. lms_bytes (lms_of e.lms j)) ++ laid (slices_of many) (λ g. laid e.channels (λ j. bytes_of 8 (slice_word (lms_of e.lms j) (mine j) g))))
  unfolding frame_bytes encoder_view
  frame_of =
      ap₂ (λ (s g : List ℕ). bytes_of 8 (header_word (header_for (encoder_view e) many)) ++ (s ++ g))
      (laid_ext e.channels (λ j. lms_bytes (lms_of (encoder_view e).lms j)) (λ j. lms_bytes (lms_of e.lms j)) (λ j h. ap lms_bytes (view_lms e j h)))
      (laid_ext (slices_of many) (group_bytes (encoder_view e) samples) (λ g. laid e.channels (λ j. bytes_of 8 (slice_word (lms_of e.lms j) (mine j) g)))
      (λ g _. laid_ext e.channels (λ j. bytes_of 8 (slice_word (lms_of (encoder_view e).lms j) (mine j) g)) (λ j. bytes_of 8 (slice_word (lms_of e.lms j) (mine j) g))
      (λ j h. ap (λ (s : QoaLms). bytes_of 8 (slice_word s (mine j) g)) (view_lms e j h))))

  pub after_of : (next : List QoaLms) → ((j : ℕ) → j < e.channels → lms_of next j ≡ lms_before (lms_of e.lms j) (mine j) (slices_of many))
      → encoder_view record { channels = e.channels; rate = e.rate; total = e.total; lms = next } ≡ after_frame (encoder_view e) samples
  unfolding encoder_view after_frame
  after_of next same =
      ap (λ (l : List QoaLms). record { channels = e.channels; rate = e.rate; total = e.total; lms = l })
      (table_ext e.channels (lms_of next) (λ j. lms_before (lms_of (encoder_view e).lms j) (mine j) (slices_of many))
      (λ j h. same j h ∙ ap (λ (s : QoaLms). lms_before s (mine j) (slices_of many)) (sym (view_lms e j h))))

  -- before it the weights are in 16 bits
  pub frame_within : FrameFits (encoder_view e) samples → (j : ℕ) → j < e.channels → WeightsWithin 32768 (lms_of e.lms j)
  unfolding encoder_view
  frame_within f j h = rw (← view_lms e j h) (short_within (lms_of (encoder_view e).lms j) (wide_none (encoder_view e).lms e.channels f.narrow j h))

-- the first channel with a wide weight
pub wide_view : (e : QoaEncoder) → first_wide e.channels e.lms ≡ first_wide (encoder_view e).channels (encoder_view e).lms
unfolding encoder_view
wide_view e = wide_ext e.channels e.lms (encoder_view e).lms (λ j h. sym (view_lms e j h))

-- ---- the state after it

module _ (v : EncoderView) (samples : List ℤ) where
  pub after_good : Good v → Good (after_frame v samples)
  unfolding after_frame slices_of
  after_good g = record {
    some_channels = g.some_channels;
    few_channels = g.few_channels;
    some_rate = g.some_rate;
    rate_fits = g.rate_fits;
    some_total = g.some_total;
    histories = λ j h.
        rw (get_or_table v.channels (λ j. lms_before (lms_of v.lms j) (channel_of v samples j) (slices_of (per_channel v samples))) j no_lms h)
        (before_fits (lms_of v.lms j) (channel_of v samples j) (slices_of (per_channel v samples)) (omega (arith, strided_length (per_channel v samples) samples j v.channels)) (g.histories j h));
  }

  -- an accepted frame hands back a good state
  pub after_passes : Good v → good_encoder (after_frame v samples) ≡ true
  after_passes g = facts_good (after_frame v samples) (after_good g)
