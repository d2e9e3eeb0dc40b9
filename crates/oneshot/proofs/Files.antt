-- Laws of a whole file: the samples of its frames, its length, and one frame more. Assumes nothing.
use Prim.Native.Nat.{ℕ, zero, suc, ◌+◌, ◌*◌, ◌-◌, ◌≤◌, ◌<◌, min}
use mathlib.Core.Path.{◌≡◌, refl, ap, ap₂, sym, ◌∙◌}
use mathlib.Core.List.{List}
use mathlib.Core.Logic.{dite, ⊎_elim}
use mathlib.Core.Option.{none, some}
use native.Mathlib.Decide.{dec_le}
use native.Mathlib.Nat.{lt_of_mul-lt-mul_right, mul-lt-mul_of_pos_right, mul-div_left, mul-le-mul_left, mul-le-mul_right, eq-or-lt_of_le, le_of_suc-le-suc}
use native.Mathlib.Omega.{arith}
use lib.IntN.{ℤ}
use lib.ListN.{length, length-append, length-drop, length-take, take, drop}
use Rattle.format.specs.Format.{frame_len, frame_length, slices_of, state_end}
use Rattle.encoder.specs.Encoder.{EncoderView, encoder_view}
use Rattle.encoder.specs.Frame.{after_frame, first_wide, frame_bytes, per_channel}
use Rattle.oneshot.specs.OneShot.{Stop, state_before, bytes_before, chunk, file_bytes, file_need, frames_in, frames_of, need_of, stop_in}
use Rattle.refusal.specs.Rules.{good}
use Rattle.refusal.specs.Lent.{laid_over}
use Rattle.encoder.specs.Parts.{FrameFits}
use Rattle.oneshot.specs.Parts.{frame_place}
use Rattle.encoder.specs.declared.QoaEncoder.{QoaEncoder}
use Rattle.encoder.proofs.Frames.{after_good, length_frame, wide_view}
use Rattle.encoder.proofs.GoodEncoders.{Good}
use Rattle.encoder.proofs.Heads.{length_head}
use Rattle.refusal.proofs.Lents.{over_then}
use Rattle.oneshot.proofs.Turns.{take_min}

-- ---- the samples of a frame

-- as a cut from place to place gives them
pub chunk_part : (c : ℕ) (samples : List ℤ) (f end : ℕ) → end ≡ frame_len * c * f + min (frame_len * c) (length samples - frame_len * c * f)
    → take (end - frame_len * c * f) (drop (frame_len * c * f) samples) ≡ chunk c samples f
unfolding chunk
chunk_part c samples f end e =
    let start : ℕ = frame_len * c * f in
    let count : end - start ≡ min (frame_len * c) (length (drop start samples)) = rw length-drop (omega arith) in
    ap (λ (n : ℕ). take n (drop start samples)) count ∙ take_min (frame_len * c) (drop start samples)

-- ---- the frames of a file

-- samples per channel of frame f
abbrev pub count_in : ℕ → ℕ → ℕ
count_in total f = min frame_len (total - frame_len * f)

min_scaled : (d c : ℕ) → min (frame_len * c) (d * c) ≡ min frame_len d * c
min_scaled d c =
    dite (dec_le frame_len d)
    (λ less. let m : min frame_len d ≡ frame_len = omega arith in rw m (omega (arith, mul-le-mul_right c less)))
    (λ more. let under : d ≤ frame_len = omega arith in let m : min frame_len d ≡ d = omega arith in rw m (omega (arith, mul-le-mul_right c under)))

module _ (v : EncoderView) (samples : List ℤ) where
  pub before_channels : (f : ℕ) → (state_before v samples f).channels ≡ v.channels
  unfolding state_before after_frame
  before_channels zero = refl
  before_channels (suc f) = before_channels f

  pub before_good : Good v → (f : ℕ) → Good (state_before v samples f)
  unfolding state_before
  before_good g zero = g
  before_good g (suc f) = after_good (state_before v samples f) (chunk v.channels samples f) (before_good g f)

  -- ---- where a weight is too wide

  pub stop_more : (f : ℕ) → stop_in v samples f ≡ none → first_wide v.channels (state_before v samples f).lms ≡ none → stop_in v samples (suc f) ≡ none
  unfolding stop_in
  stop_more f e w = rw (e, w)

  pub stop_here : (f j : ℕ) → stop_in v samples f ≡ none → first_wide v.channels (state_before v samples f).lms ≡ some j → stop_in v samples (suc f) ≡ some (record { frame = f; channel = j })
  unfolding stop_in
  stop_here f j e w = rw (e, w)

  pub stop_stays : (n k : ℕ) (s : Stop) → stop_in v samples k ≡ some s → k ≤ n → stop_in v samples n ≡ some s
  unfolding stop_in
  stop_stays zero k s e h = let same : k ≡ 0 = omega arith in ap (stop_in v samples) (sym same) ∙ e
  stop_stays (suc n) k s e h =
      ⊎_elim (λ (q : k ≡ suc n). ap (stop_in v samples) (sym q) ∙ e) (λ less. rw (stop_stays n k s e (le_of_suc-le-suc less))) (eq-or-lt_of_le h)

  module _ (some_channels : 0 < v.channels) (long : length samples ≡ v.total * v.channels) where
    -- ---- lengths

    pub chunk_long : (f : ℕ) → frame_len * f ≤ v.total → length (chunk v.channels samples f) ≡ count_in v.total f * v.channels
    unfolding chunk
    chunk_long f h =
        let c = v.channels in
        let d : ℕ = v.total - frame_len * f in
        let cut : v.total ≡ frame_len * f + d = omega arith in
        let rest : length samples - frame_len * c * f ≡ d * c = omega (arith, long, ap (λ (t : ℕ). t * c) cut) in
        rw (length-take, length-drop, rest) (min_scaled d c)

    pub per_chunk : (f : ℕ) → frame_len * f ≤ v.total → per_channel (state_before v samples f) (chunk v.channels samples f) ≡ count_in v.total f
    per_chunk f h = rw (before_channels f, chunk_long f h) (mul-div_left (count_in v.total f) some_channels)

    pub length_before : (f : ℕ) → f ≤ frames_of v → length (bytes_before v samples f) ≡ 8 + (f * state_end v.channels + 8 * (v.channels * slices_of (min (frame_len * f) v.total)))
    unfolding bytes_before slices_of frames_in frame_length
    length_before zero h =
        let none : slices_of (min (frame_len * 0) v.total) ≡ 0 = omega arith in
        omega (arith, length_head v.total, ap (λ (n : ℕ). v.channels * n) none)
    length_before (suc f) h =
        let c = v.channels in
        let w = state_before v samples f in
        let xs = chunk c samples f in
        let within : frame_len * f ≤ v.total = omega arith in
        let frame : length (frame_bytes w xs) ≡ frame_length c (count_in v.total f) = length_frame w xs ∙ ap₂ frame_length (before_channels f) (per_chunk f within) in
        let sum : slices_of (min (frame_len * suc f) v.total) ≡ slices_of (min (frame_len * f) v.total) + slices_of (count_in v.total f) = omega arith in
        omega (arith, length-append (bytes_before v samples f) (frame_bytes w xs), length_before f (omega arith), frame, ap (λ (n : ℕ). c * n) sum)

    -- the whole file is as long as its need
    pub file_long : length (file_bytes v samples) ≡ file_need v
    unfolding need_of frames_in
    file_long =
        let all : min (frame_len * frames_of v) v.total ≡ v.total = omega arith in
        length_before (frames_of v) (omega arith) ∙ ap (λ (n : ℕ). 8 + (frames_of v * state_end v.channels + 8 * (v.channels * slices_of n))) all

    -- its parts are no longer
    pub before_small : (f : ℕ) → f ≤ frames_of v → length (bytes_before v samples f) ≤ file_need v
    unfolding need_of slices_of
    before_small f h =
        let c = v.channels in
        let fewer : slices_of (min (frame_len * f) v.total) ≤ slices_of v.total = omega arith in
        omega (arith, length_before f h, mul-le-mul_right (state_end c) h, mul-le-mul_left c fewer)

    -- frame f starts behind f full ones
    pub place_before : (f : ℕ) → f < frames_of v → length (bytes_before v samples f) ≡ frame_place v.channels f
    unfolding frame_place frame_length slices_of frames_in
    place_before f h =
        let full : slices_of (min (frame_len * f) v.total) ≡ 256 * f = omega arith in
        omega (arith, length_before f (omega arith), ap (λ (n : ℕ). v.channels * n) full)

    -- and ends within the need
    pub room_after : (f : ℕ) → f < frames_of v → frame_place v.channels f + frame_length v.channels (count_in v.total f) ≤ file_need v
    unfolding need_of slices_of frames_in frame_length frame_place
    room_after f h =
        let c = v.channels in
        let more : 256 * f + slices_of (count_in v.total f) ≤ slices_of v.total = omega arith in
        omega (arith, mul-le-mul_right (state_end c) h, mul-le-mul_left c more)

    -- a frame that has samples is one of them
    pub frame_there : (f : ℕ) → frame_len * v.channels * f < length samples → f < frames_of v
    unfolding frames_in
    frame_there f h =
        let inside : frame_len * f < v.total = lt_of_mul-lt-mul_right v.channels (omega (arith, long)) in
        omega arith

    -- and where no samples are left they are all there
    pub all_frames : (f : ℕ) → f ≤ frames_of v → length samples ≤ frame_len * v.channels * f → f ≡ frames_of v
    unfolding frames_in
    all_frames f h done =
        let past : v.total ≤ frame_len * f =
        dite (dec_le v.total (frame_len * f)) (λ most. most) (λ fewer. let less : frame_len * f < v.total = omega arith in absurd (omega (arith, long, mul-lt-mul_of_pos_right less some_channels))) in
        omega arith

    -- ---- one frame more, from a state that means the one before it

    module _ (g : Good v) (s : QoaEncoder) (f : ℕ) (same : encoder_view s ≡ state_before v samples f) (h : f < frames_of v) where
      within : frame_len * f < v.total
      unfolding frames_in
      within = omega arith

      channels_are : s.channels ≡ v.channels
      unfolding encoder_view
      channels_are = ap (λ (w : EncoderView). w.channels) same ∙ before_channels f

      -- the first wide channel
      pub wide_now : first_wide v.channels s.lms ≡ first_wide v.channels (state_before v samples f).lms
      wide_now =
          ap (λ (c : ℕ). first_wide c s.lms) (sym channels_are)
          ∙ wide_view s
          ∙ ap (λ (w : EncoderView). first_wide w.channels w.lms) same
          ∙ ap (λ (c : ℕ). first_wide c (state_before v samples f).lms) (before_channels f)

      -- where the frame's samples start
      pub chunk_starts : frame_len * s.channels * f ≤ length samples
      chunk_starts =
          let w = within in
          let less : frame_len * f ≤ v.total = omega arith in
          rw channels_are (omega (arith, long, mul-le-mul_right v.channels less))

      -- what `put_frame` asks
      pub chunk_fits : first_wide v.channels (state_before v samples f).lms ≡ none → FrameFits (encoder_view s) (chunk v.channels samples f)
      chunk_fits narrow =
          let w = state_before v samples f in
          let xs = chunk v.channels samples f in
          let inside = within in
          let count : per_channel w xs ≡ count_in v.total f = per_chunk f (omega arith) in
          let good-now = before_good g f in
          let fits : FrameFits w xs =
          record {
            some_channels = good-now.some_channels;
            few_channels = good-now.few_channels;
            rate_fits = good-now.rate_fits;
            whole = rw (count, before_channels f) (sym (chunk_long f (omega arith)));
            some_samples = rw count (omega arith);
            few_samples = rw count (omega arith);
            narrow = rw (before_channels f) narrow;
          } in
          rw same fits

      pub chunk_room : frame_place v.channels f + frame_length s.channels (per_channel (encoder_view s) (chunk v.channels samples f)) ≤ file_need v
      chunk_room = let inside = within in rw (same, channels_are, per_chunk f (omega arith)) (room_after f h)

      -- and what it leaves
      pub view_next : after_frame (encoder_view s) (chunk v.channels samples f) ≡ state_before v samples (suc f)
      unfolding state_before
      view_next = rw same

      pub chunk_over : (start : List ℕ) → length (bytes_before v samples f) ≤ length start
          → laid_over (laid_over start 0 (good (bytes_before v samples f))) (frame_place v.channels f) (good (frame_bytes (encoder_view s) (chunk v.channels samples f))) ≡ laid_over start 0 (good (bytes_before v samples (suc f)))
      unfolding bytes_before
      chunk_over start room =
          let b = bytes_before v samples f in
          let x = frame_bytes (state_before v samples f) (chunk v.channels samples f) in
          rw same (over_then start 0 (frame_place v.channels f) b x (omega (arith, place_before f h)) (omega arith))
