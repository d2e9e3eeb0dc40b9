-- A whole file in one shot is one in pieces: its frames are taken, each from the state that the one before handed back. Assumes nothing.
use Prim.Native.Nat.{ℕ, zero, suc, ◌+◌, ◌*◌, ◌≤◌, ◌<◌}
use mathlib.Core.Path.{◌≡◌, refl, ap, sym, subst, ◌∙◌}
use mathlib.Core.List.{List, [], ◌∷◌, ◌++◌, append_assoc, append-nil}
use mathlib.Core.Logic.{⊎_elim}
use mathlib.Core.Option.{Option, none, some}
use native.Mathlib.Nat.{eq-or-lt_of_le, le_of_suc-le-suc, mul-le-mul, mul-le-mul_right, mul-mod_left, mul-zero, not-suc-le-zero}
use native.Mathlib.Omega.{arith}
use lib.IntN.{ℤ}
use lib.ListN.{length, take}
use lib.Seq.{take-add, take_all}
use Rattle.refusal.specs.Rules.{good}
use Rattle.word.specs.Table.{table}
use Rattle.word.proofs.Tables.{length_table, table_last}
use Rattle.format.specs.Format.{frame_len, most_bytes}
use Rattle.file.specs.Whole.{decode}
use Rattle.encoder.specs.Encoder.{EncoderView}
use Rattle.encoder.specs.Frame.{after_frame, first_wide, frame_bytes, frame_sums}
use Rattle.oneshot.specs.OneShot.{Stop, state_before, bytes_before, chunk, file_bytes, frames_in, frames_of, or_stop, stop_at, stop_in, sums_before}
use Rattle.encoder.specs.Head.{head_bytes}
use Rattle.oneshot.proofs.Files.{before_channels, before_good, chunk_long, count_in, per_chunk}
use Rattle.theorems.specs.Claims.{HasCutWithoutTail}
use Rattle.theorems.specs.Finished.{all_given, frames_bytes, frames_sums}
use Rattle.theorems.proofs.Files.{AllTaken, as_many, reads_back, tailless}
use Rattle.theorems.proofs.Frames.{Taken}
use Rattle.theorems.proofs.Taking.{Shot}

-- ---- one frame more at the end

abbrev after_all : EncoderView → List (List ℤ) → EncoderView
after_all v [] = v
after_all v (xs ∷ more) = after_all (after_frame v xs) more

module _ (ys : List ℤ) where
  abbrev end : List (List ℤ)
  end = ys ∷ []

  after_more : (v : EncoderView) (l : List (List ℤ)) → after_all v (l ++ end) ≡ after_frame (after_all v l) ys
  after_more v [] = refl
  after_more v (xs ∷ more) = after_more (after_frame v xs) more

  taken_more : (v : EncoderView) (l : List (List ℤ)) → AllTaken v l → Taken (after_all v l) ys → AllTaken v (l ++ end)
  taken_more v [] a t = (t, tt)
  taken_more v (xs ∷ more) a t = (a.0, taken_more (after_frame v xs) more a.1 t)

  bytes_more : (v : EncoderView) (l : List (List ℤ)) → frames_bytes v (l ++ end) ≡ frames_bytes v l ++ frame_bytes (after_all v l) ys
  unfolding frames_bytes
  bytes_more v [] = append-nil (frame_bytes v ys)
  bytes_more v (xs ∷ more) =
      ap (λ (b : List ℕ). frame_bytes v xs ++ b) (bytes_more (after_frame v xs) more)
      ∙ sym (append_assoc (frame_bytes v xs) (frames_bytes (after_frame v xs) more) (frame_bytes (after_all (after_frame v xs) more) ys))

  sums_more : (v : EncoderView) (l : List (List ℤ)) → frames_sums v (l ++ end) ≡ frames_sums v l ++ frame_sums (after_all v l) ys
  unfolding frames_sums
  sums_more v [] = append-nil (frame_sums v ys)
  sums_more v (xs ∷ more) =
      ap (λ (b : List ℤ). frame_sums v xs ++ b) (sums_more (after_frame v xs) more)
      ∙ sym (append_assoc (frame_sums v xs) (frames_sums (after_frame v xs) more) (frame_sums (after_all (after_frame v xs) more) ys))

  given_more : (l : List (List ℤ)) → all_given (l ++ end) ≡ all_given l ++ ys
  unfolding all_given
  given_more [] = append-nil ys
  given_more (xs ∷ more) = ap (λ (b : List ℤ). xs ++ b) (given_more more) ∙ sym (append_assoc xs (all_given more) ys)

-- ---- the frames of a one-shot file

-- the samples of frame f
abbrev piece : EncoderView → List ℤ → ℕ → List ℤ
piece v samples f = chunk v.channels samples f

module _ (v : EncoderView) (samples : List ℤ) where
  abbrev chunks : ℕ → List (List ℤ)
  chunks f = table f (piece v samples)

  before_is : (f : ℕ) → state_before v samples f ≡ after_all v (chunks f)
  unfolding state_before table
  before_is zero = refl
  before_is (suc f) = rw (before_is f) (sym (ap (after_all v) (table_last f (piece v samples)) ∙ after_more (piece v samples f) v (chunks f)))

  bytes_is : (f : ℕ) → bytes_before v samples f ≡ head_bytes v.total ++ frames_bytes v (chunks f)
  unfolding bytes_before frames_bytes table
  bytes_is zero = sym (append-nil (head_bytes v.total))
  bytes_is (suc f) =
      rw (bytes_is f, before_is f)
      (append_assoc (head_bytes v.total) (frames_bytes v (chunks f)) (frame_bytes (after_all v (chunks f)) (piece v samples f))
      ∙ ap (λ (b : List ℕ). head_bytes v.total ++ b) (sym (ap (frames_bytes v) (table_last f (piece v samples)) ∙ bytes_more (piece v samples f) v (chunks f))))

  sums_are : (f : ℕ) → sums_before v samples f ≡ frames_sums v (chunks f)
  unfolding sums_before frames_sums table
  sums_are zero = refl
  sums_are (suc f) = rw (sums_are f, before_is f) (sym (ap (frames_sums v) (table_last f (piece v samples)) ∙ sums_more (piece v samples f) v (chunks f)))

  given_is : (f : ℕ) → all_given (chunks f) ≡ take (frame_len * v.channels * f) samples
  unfolding all_given table chunk
  given_is zero = ap (λ (k : ℕ). take k samples) (sym (mul-zero (frame_len * v.channels)))
  given_is (suc f) =
      let c = v.channels in
      let place : frame_len * c * f + frame_len * c ≡ frame_len * c * suc f = omega arith in
      ap all_given (table_last f (piece v samples))
      ∙ given_more (piece v samples f) (chunks f)
      ∙ ap (λ (l : List ℤ). l ++ piece v samples f) (given_is f)
      ∙ sym (take-add (frame_len * c * f) (frame_len * c) samples)
      ∙ ap (λ (k : ℕ). take k samples) place

-- ---- they are taken

module _ (v : EncoderView) (samples : List ℤ) where
  both_none : (o p : Option Stop) → or_stop o p ≡ none → (o ≡ none) × (p ≡ none)
  both_none none p e = (refl, e)
  both_none (some s) p e = let z : ◌≡◌ {A = ℕ} 0 1 = cc in absurd (omega arith)

  stop_none : (f : ℕ) (o : Option ℕ) → stop_at f o ≡ none → o ≡ none
  stop_none f none e = refl
  stop_none f (some j) e = let z : ◌≡◌ {A = ℕ} 0 1 = cc in absurd (omega arith)

  -- no frame starts with a weight out of range
  narrow_at : (n : ℕ) → stop_in v samples n ≡ none → (f : ℕ) → f < n → first_wide v.channels (state_before v samples f).lms ≡ none
  unfolding stop_in
  narrow_at zero e f h = absurd (not-suc-le-zero h)
  narrow_at (suc n) e f h =
      let both = both_none (stop_in v samples n) _ e in
      ⊎_elim (λ (q : f ≡ n). rw q (stop_none n _ both.1)) (λ less. narrow_at n both.0 f less) (eq-or-lt_of_le (le_of_suc-le-suc h))

module _ (v : EncoderView) (samples : List ℤ) (s : Shot v samples) where
  starts_within : (f : ℕ) → f < frames_of v → frame_len * f < v.total
  unfolding frames_in
  starts_within f h = omega arith

  taken_at : (f : ℕ) → f < frames_of v → Taken (state_before v samples f) (piece v samples f)
  taken_at f h =
      let same = before_channels v samples f in
      let inside = starts_within f h in
      let each = count_in v.total f in
      let long = chunk_long v samples s.good.some_channels s.whole f (omega arith) in
      let some : 1 ≤ each = omega arith in
      let all : 1 ≤ each * v.channels = mul-le-mul some s.good.some_channels in
      record {
        good = before_good v samples s.good f;
        some_samples = omega arith;
        whole = rw (same, long) (mul-mod_left each v.channels);
        few_samples = rw (per_chunk v samples s.good.some_channels s.whole f (omega arith)) (omega arith);
        narrow = rw same (narrow_at v samples (frames_of v) s.no_stop f h);
      }

  chunks_taken : (f : ℕ) → f ≤ frames_of v → AllTaken v (chunks v samples f)
  unfolding table
  chunks_taken zero h = tt
  chunks_taken (suc f) h =
      subst (λ (l : List (List ℤ)). AllTaken v l) (sym (table_last f (piece v samples)))
      (taken_more (piece v samples f) v (chunks v samples f) (chunks_taken f (omega arith)) (rw (← before_is v samples f) (taken_at f h)))

  all_given_lem : all_given (chunks v samples (frames_of v)) ≡ samples
  unfolding frames_in
  all_given_lem =
      let c = v.channels in
      let more : v.total ≤ frame_len * frames_of v = omega arith in
      let reach = mul-le-mul_right c more in
      given_is v samples (frames_of v) ∙ take_all (frame_len * c * frames_of v) samples (omega (arith, s.whole))

  some_frames : 0 < frames_of v
  unfolding frames_in
  some_frames = omega (arith, s.good.some_total)

-- ---- so it is in the grammar, and reads back

in_pieces_read : (total : ℕ) (v : EncoderView) (l : List (List ℤ)) → 0 < length l → AllTaken v l → (room : ℕ) → length (head_bytes total ++ frames_bytes v l) ≤ most_bytes → length (all_given l) ≤ room
    → decode room (head_bytes total ++ frames_bytes v l) ≡ good (record { channels = v.channels; rate = v.rate; samples = frames_sums v l })
in_pieces_read total v [] h a = absurd (omega arith)
in_pieces_read total v (xs ∷ more) h a = reads_back total v xs more a

in_pieces_cut : (total : ℕ) (v : EncoderView) (l : List (List ℤ)) → 0 < length l → AllTaken v l → HasCutWithoutTail (head_bytes total ++ frames_bytes v l)
in_pieces_cut total v [] h a = absurd (omega arith)
in_pieces_cut total v (xs ∷ more) h a = tailless total v xs more a

some_chunks : (v : EncoderView) (samples : List ℤ) → Shot v samples → 0 < length (chunks v samples (frames_of v))
some_chunks v samples s = rw (length_table (frames_of v) (piece v samples)) (some_frames v samples s)

pub shot_tailless : (v : EncoderView) (samples : List ℤ) → Shot v samples → HasCutWithoutTail (file_bytes v samples)
shot_tailless v samples s =
    rw (bytes_is v samples (frames_of v))
    (in_pieces_cut v.total v (chunks v samples (frames_of v)) (some_chunks v samples s) (chunks_taken v samples s (frames_of v) (omega arith)))

pub shot_reads_back : (v : EncoderView) (samples : List ℤ) → Shot v samples → (room : ℕ) → length (file_bytes v samples) ≤ most_bytes → length samples ≤ room
    → decode room (file_bytes v samples) ≡ good (record { channels = v.channels; rate = v.rate; samples = sums_before v samples (frames_of v) })
shot_reads_back v samples s room few enough =
    let l = chunks v samples (frames_of v) in
    let same = bytes_is v samples (frames_of v) in
    rw (same, sums_are v samples (frames_of v))
    (in_pieces_read v.total v l (some_chunks v samples s) (chunks_taken v samples s (frames_of v) (omega arith)) room (rw same at few) (rw (all_given_lem v samples s) enough))

pub shot_many : (v : EncoderView) (samples : List ℤ) → Shot v samples → length (sums_before v samples (frames_of v)) ≡ length samples
shot_many v samples s =
    let l = chunks v samples (frames_of v) in
    rw (sums_are v samples (frames_of v)) (as_many v l (chunks_taken v samples s (frames_of v) (omega arith)) ∙ ap length (all_given_lem v samples s))
