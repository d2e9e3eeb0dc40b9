-- A frame that the encoder takes: it is one of the grammar, and it reads as the writer's reconstruction. Assumes nothing.
use Prim.Native.Nat.{ℕ, zero, suc, ◌+◌, ◌*◌, ◌/◌, ◌%◌, ◌^◌, ◌≤◌, ◌<◌}
use mathlib.Core.Path.{◌≡◌, refl, ap, ◌∙◌}
use mathlib.Core.List.{List, ◌++◌}
use mathlib.Core.Option.{none}
use native.Mathlib.Nat.{div-add-mod', div-lt_iff_lt-mul, mod-lt, mul-div_right, mul-le-mul, mul-mod_right, zero-add}
use native.Mathlib.Omega.{arith}
use lib.Arith.{digits_lt}
use lib.IntN.{ℤ}
use lib.ListN.{length, get_or, get_or-append}
use lib.Seq.{get_or-append-add}
use Rattle.word.specs.Bytes.{byte_of, bytes_of}
use Rattle.word.proofs.BytesLaws.{be_of, byte_at, length_bytes}
use Rattle.word.proofs.Tables.{get_or_table, table_ext}
use Rattle.lms.specs.declared.QoaLms.{QoaLms}
use Rattle.format.specs.Format.{frame_len, frame_length, max_channels, slices_of, state_end}
use Rattle.format.specs.Grammar.{IsFrame, Passes}
use Rattle.format.specs.Header.{header_at, header_word, size_slices}
use Rattle.format.specs.Predictor.{lms_at, lms_of, no_lms}
use Rattle.format.proofs.Headers.{InRange, header_of_bytes}
use Rattle.predictors.proofs.Predictors.{lms_ext}
use Rattle.search.proofs.Fitting.{strided_length}
use Rattle.search.proofs.Slices.{encoded_word_lt}
use Rattle.groups.specs.Channel.{channel_at}
use Rattle.groups.specs.Groups.{groups_at}
use Rattle.groups.specs.Groups as Groups
use Rattle.groups.proofs.Runs.{channel_ext}
use Rattle.file.specs.Frame.{frame_samples, frame_states}
use Rattle.body.specs.Channel.{lms_before, slice_part, slice_word, sum_at}
use Rattle.encoder.specs.Encoder.{EncoderView}
use Rattle.body.specs.Laid.{laid, lms_bytes}
use Rattle.encoder.specs.Frame.{channel_of, first_wide, frame_bytes, frame_sums, group_bytes, header_for, per_channel, state_bytes}
use Rattle.body.proofs.Channels.{length_part}
use Rattle.encoder.proofs.Frames.{length_frame, length_sums}
use Rattle.encoder.proofs.GoodEncoders.{Good}
use Rattle.body.proofs.Laids.{length_lms, length_states, length_words}
use Rattle.lms.proofs.Shorts.{short_fits}
use Rattle.encoder.proofs.Wides.{wide_none}
use Rattle.theorems.proofs.Blocks.{at_block}
use Rattle.theorems.proofs.Channels.{channel_heard}
use Rattle.theorems.proofs.Predictors.{first_four, four_channel, lms_read}

-- what no refusal means
pub record Taken (v : EncoderView) (samples : List ℤ) : Type 0 where
  pub good : Good v
  pub some_samples : 0 < length samples
  pub whole : length samples % v.channels ≡ 0
  pub few_samples : per_channel v samples ≤ frame_len
  pub narrow : first_wide v.channels v.lms ≡ none

factor_pos : (a b : ℕ) → 0 < a * b → 0 < a
factor_pos zero b h = omega arith
factor_pos (suc a) b h = omega arith

module _ (v : EncoderView) (samples : List ℤ) (t : Taken v samples) where
  abbrev c : ℕ
  c = v.channels

  abbrev n : ℕ
  n = per_channel v samples

  abbrev f : List ℕ
  f = frame_bytes v samples

  abbrev states : List ℕ
  states = state_bytes v

  abbrev groups : List ℕ
  groups = laid (slices_of n) (group_bytes v samples)

  abbrev head : List ℕ
  head = bytes_of 8 (header_word (header_for v n))

  abbrev lms : ℕ → QoaLms
  lms j = lms_of v.lms j

  abbrev word : ℕ → ℕ → ℕ
  word j g = slice_word (lms j) (channel_of v samples j) g

  -- ---- numbers

  all_samples : n * c ≡ length samples
  all_samples = omega (arith, div-add-mod' (length samples) c, t.whole)

  some : 0 < n
  some = factor_pos n c (omega (arith, all_samples, t.some_samples))

  few_groups : slices_of n ≤ 256
  unfolding slices_of
  few_groups = omega (arith, t.few_samples)

  few_words : c * slices_of n ≤ max_channels * 256
  few_words = mul-le-mul t.good.few_channels few_groups

  some_words : 0 < c * slices_of n
  unfolding slices_of
  some_words = let one : 1 ≤ slices_of n = omega (arith, some) in mul-le-mul t.good.some_channels one

  -- ---- the header

  in_range : InRange (header_for v n)
  unfolding frame_length state_end
  in_range =
      record {
        channels_small = omega (arith, t.good.few_channels);
        rate_small = omega (arith, t.good.rate_fits);
        samples_small = omega (arith, t.few_samples);
        size_small = omega (arith, t.good.few_channels, few_words);
      }

  header_read : header_at f 0 ≡ header_for v n
  unfolding frame_bytes
  header_read = header_of_bytes (header_for v n) (states ++ groups) in_range

  slices_counted : size_slices (header_for v n) ≡ c * slices_of n
  unfolding size_slices frame_length
  slices_counted = omega arith

  passes : Passes (header_for v n)
  unfolding frame_length
  passes =
      record {
        some_channels = t.good.some_channels;
        some_rate = t.good.some_rate;
        past_state = omega (arith, some_words);
        whole_groups = rw slices_counted (mul-mod_right c (slices_of n));
        few_groups = rw (slices_counted, mul-div_right (slices_of n) t.good.some_channels) few_groups;
        few_channels = t.good.few_channels;
      }

  -- ---- the lengths of its parts

  length_head : length head ≡ 8
  length_head = length_bytes 8 (header_word (header_for v n))

  length_group : (g : ℕ) → length (group_bytes v samples g) ≡ c * 8
  length_group g = length_words c (λ j. word j g)

  pub taken_frame : IsFrame c v.rate f
  taken_frame =
      record {
        passes = rw header_read passes;
        same_channels = rw header_read refl;
        same_rate = rw header_read refl;
        whole = rw header_read (length_frame v samples);
      }

  -- ---- what stands in it for channel j

  module _ (j : ℕ) (h : j < c) where
    state_byte : (i : ℕ) → i < 16 → get_or f (8 + 16 * j + i) 0 ≡ get_or (lms_bytes (lms j)) (0 + i) 0
    unfolding frame_bytes
    state_byte i l =
        let place : 8 + 16 * j + i ≡ length head + (j * 16 + i) = omega (arith, length_head) in
        let inside : j * 16 + i < c * 16 = digits_lt h l in
        rw (place, zero-add i)
        (get_or-append-add head (states ++ groups) (j * 16 + i) 0
        ∙ get_or-append states groups 0 (j * 16 + i) (omega (arith, length_states c lms))
        ∙ at_block 16 (λ j. lms_bytes (lms j)) (λ j. length_lms (lms j)) c j i h l)

    state_read : lms_of (frame_states f) j ≡ first_four (lms j)
    unfolding frame_states
    state_read =
        rw (header_read, get_or_table c (λ j. lms_at f (8 + 16 * j)) j no_lms h)
        (lms_ext f (lms_bytes (lms j)) (8 + 16 * j) 0 state_byte
        ∙ lms_read (lms j) (t.good.histories j h) (short_fits (lms j).weights (wide_none v.lms c t.narrow j h)))

    word_byte : (g i : ℕ) → g < slices_of n → i < 8 → get_or f (state_end c + 8 * (g * c + j) + i) 0 ≡ byte_of 8 (word j g) i
    unfolding frame_bytes state_end
    word_byte g i k l =
        let place : 8 + 16 * c + 8 * (g * c + j) + i ≡ length head + (length states + (g * (c * 8) + (j * 8 + i))) = omega (arith, length_head, length_states c lms) in
        let inside : j * 8 + i < c * 8 = digits_lt h l in
        rw place
        (get_or-append-add head (states ++ groups) (length states + (g * (c * 8) + (j * 8 + i))) 0
        ∙ get_or-append-add states groups (g * (c * 8) + (j * 8 + i)) 0
        ∙ at_block (c * 8) (group_bytes v samples) length_group (slices_of n) g (j * 8 + i) k inside
        ∙ at_block 8 (λ j. bytes_of 8 (word j g)) (λ j. length_bytes 8 (word j g)) c j i h l
        ∙ byte_at 8 (word j g) i l)

    word_small : (g : ℕ) → g < slices_of n → word j g < 2 ^ 64
    unfolding slice_word slices_of
    word_small g k =
        let xs = channel_of v samples j in
        let long = length_part xs g in
        let all = strided_length n samples j c in
        encoded_word_lt (lms_before (lms j) xs g) (slice_part xs g) (omega arith) (omega arith)

    word_read : (g : ℕ) → g < slices_of n → Groups.word_at f (state_end c) c j g ≡ word j g
    word_read g k = be_of 8 (word j g) f (state_end c + 8 * (g * c + j)) (λ i l. word_byte g i k l) (word_small g k)

    -- so the channel reads as the writer's reconstruction of it
    channel_read : (k : ℕ) → k < n → channel_at (Groups.word_at f (state_end c) c j) (lms_of (frame_states f) j) k ≡ sum_at (lms j) (channel_of v samples j) k
    unfolding slices_of
    channel_read k l =
        ap (λ (s : QoaLms). channel_at (Groups.word_at f (state_end c) c j) s k) state_read
        ∙ four_channel (lms j) (Groups.word_at f (state_end c) c j) k
        ∙ channel_ext (Groups.word_at f (state_end c) c j) (lms j) (word j) (slices_of n) k (omega arith) word_read
        ∙ channel_heard (lms j) (channel_of v samples j) k (rw (strided_length n samples j c) l)

  pub taken_heard : frame_samples f ≡ frame_sums v samples
  unfolding frame_samples frame_sums groups_at
  taken_heard =
      rw header_read
      (table_ext (n * c) (groups_at f (state_end c) c (frame_states f)) (λ k. sum_at (lms (k % c)) (channel_of v samples (k % c)) (k / c))
      (λ k l. channel_read (k % c) (mod-lt k t.good.some_channels) (k / c) ((div-lt_iff_lt-mul t.good.some_channels).1 l)))

  -- as many samples as were given
  pub taken_many : length (frame_sums v samples) ≡ length samples
  taken_many = length_sums v samples ∙ all_samples
