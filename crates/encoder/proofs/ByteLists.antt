-- What a frame's bytes are made of: each is below 256, and each word fits its 64 bits. Assumes nothing.
use Prim.Native.Nat.{ℕ, zero, suc, ◌+◌, ◌*◌, ◌-◌, ◌^◌, ◌<◌}
use mathlib.Core.Path.{◌≡◌, ap, ◌∙◌}
use mathlib.Core.List.{List, ◌++◌}
use mathlib.Core.Logic.{dite}
use native.Mathlib.Decide.{dec_lt}
use native.Mathlib.Omega.{arith}
use lib.Dec.{lit<}
use lib.IntN.{ℤ}
use lib.ListN.{get_or, length, get_or-append}
use lib.Seq.{get_or-append-add}
use Rattle.word.specs.Bytes.{bytes_of}
use Rattle.lms.specs.declared.QoaLms.{QoaLms}
use Rattle.format.specs.FileHeader.{magic}
use Rattle.format.specs.Format.{slices_of}
use Rattle.format.specs.Header.{header_word}
use Rattle.format.specs.Predictor.{four_word, lms_of}
use Rattle.word.proofs.Fields.{AreBytes, are_bytes}
use Rattle.search.proofs.Slices.{encoded_word_lt}
use Rattle.encoder.specs.Encoder.{EncoderView}
use Rattle.body.specs.Channel.{lms_before, slice_part, slice_word}
use Rattle.body.specs.Laid.{laid}
use Rattle.encoder.specs.Frame.{frame_bytes, group_bytes, header_for, per_channel, state_bytes}
use Rattle.encoder.specs.Head.{head_bytes}
use Rattle.body.proofs.Channels.{length_part}

pub append_bytes : (xs ys : List ℕ) → AreBytes xs → AreBytes ys → AreBytes (xs ++ ys)
append_bytes xs ys p q i =
    dite (dec_lt i (length xs))
    (λ inside. rw (get_or-append xs ys 0 i inside) (p i))
    (λ past.
    let there : i ≡ length xs + (i - length xs) = omega arith in
    rw (ap (λ (k : ℕ). get_or (xs ++ ys) k 0) there ∙ get_or-append-add xs ys (i - length xs) 0) (q (i - length xs)))

pub laid_bytes : (n : ℕ) (f : ℕ → List ℕ) → ((i : ℕ) → AreBytes (f i)) → AreBytes (laid n f)
unfolding laid
laid_bytes zero f each = λ i. lit< tt
laid_bytes (suc n) f each = append_bytes (laid n f) (f n) (laid_bytes n f each) (each n)

pub head_bytes_lem : (total : ℕ) → AreBytes (head_bytes total)
unfolding head_bytes
head_bytes_lem total = append_bytes (bytes_of 4 magic) (bytes_of 4 total) (are_bytes 4 magic) (are_bytes 4 total)

pub frame_bytes_lem : (v : EncoderView) (samples : List ℤ) → AreBytes (frame_bytes v samples)
unfolding frame_bytes
frame_bytes_lem v samples =
    append_bytes (bytes_of 8 (header_word (header_for v (per_channel v samples)))) (state_bytes v ++ laid (slices_of (per_channel v samples)) (group_bytes v samples)) (are_bytes 8 _)
    (append_bytes (state_bytes v) (laid (slices_of (per_channel v samples)) (group_bytes v samples))
    (laid_bytes v.channels _ (λ j. append_bytes (bytes_of 8 (four_word (lms_of v.lms j).history)) (bytes_of 8 (four_word (lms_of v.lms j).weights)) (are_bytes 8 _) (are_bytes 8 _)))
    (laid_bytes (slices_of (per_channel v samples)) (group_bytes v samples) (λ g. laid_bytes v.channels _ (λ j. are_bytes 8 _))))

pub word_lt : (s : QoaLms) (xs : List ℤ) (g : ℕ) → 20 * g < length xs → slice_word s xs g < 2 ^ 64
unfolding slice_word
word_lt s xs g h =
    let long = length_part xs g in
    encoded_word_lt (lms_before s xs g) (slice_part xs g) (omega arith) (omega arith)
