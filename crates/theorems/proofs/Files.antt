-- A file header and frames that were taken, each from the state that the one before handed back: the file is in the grammar, and reads as the writer's
-- reconstruction. Assumes nothing.
use Prim.Native.Nat.{ℕ, ◌≤◌}
use mathlib.Core.Path.{◌≡◌, refl, ap, ap₂, ◌∙◌}
use mathlib.Core.List.{List, [], ◌∷◌, ◌++◌, flat_map}
use native.Mathlib.Omega.{arith}
use lib.Dec.{lit<}
use lib.IntN.{ℤ}
use lib.ListN.{length, length-append}
use Rattle.word.specs.Bytes.{be32, bytes_of}
use Rattle.refusal.specs.Rules.{good}
use Rattle.word.proofs.BytesLaws.{be_of_bytes}
use Rattle.format.specs.FileHeader.{magic}
use Rattle.format.specs.Format.{most_bytes}
use Rattle.file.proofs.Accepted.{same_frames}
use Rattle.format.specs.Grammar.{Cut, Each, IsCut, IsFrame, joined}
use Rattle.format.proofs.Tails.{tail_none}
use Rattle.file.specs.Frame.{frame_samples}
use Rattle.file.specs.Whole.{Audio, audio_of, decode}
use Rattle.file.proofs.Decoded.{accepts}
use Rattle.encoder.specs.Encoder.{EncoderView}
use Rattle.encoder.specs.Frame.{after_frame, frame_bytes, frame_sums}
use Rattle.encoder.specs.Head.{head_bytes}
use Rattle.encoder.proofs.Heads.{length_head}
use Rattle.theorems.specs.Claims.{HasCutWithoutTail}
use Rattle.theorems.specs.Finished.{all_given, frames_bytes, frames_sums}
use Rattle.theorems.proofs.Frames.{Taken, taken_frame, taken_heard, taken_many}

-- ---- frames in a row

abbrev pub AllTaken : EncoderView → List (List ℤ) → Type 0
AllTaken v [] = Unit {0}
AllTaken v (xs ∷ more) = Taken v xs × AllTaken (after_frame v xs) more

-- the bytes of each
abbrev frames_from : EncoderView → List (List ℤ) → List (List ℕ)
frames_from v [] = []
frames_from v (xs ∷ more) = frame_bytes v xs ∷ frames_from (after_frame v xs) more

frames_joined : (v : EncoderView) (l : List (List ℤ)) → joined (frames_from v l) [] ≡ frames_bytes v l
unfolding frames_bytes
frames_joined v [] = refl
frames_joined v (xs ∷ more) = ap (λ (b : List ℕ). frame_bytes v xs ++ b) (frames_joined (after_frame v xs) more)

are_frames : (v : EncoderView) (l : List (List ℤ)) → AllTaken v l → Each (IsFrame v.channels v.rate) (frames_from v l)
unfolding after_frame
are_frames v [] a = tt
are_frames v (xs ∷ more) a = (taken_frame v xs a.0, are_frames (after_frame v xs) more a.1)

frames_heard : (v : EncoderView) (l : List (List ℤ)) → AllTaken v l → flat_map frame_samples (frames_from v l) ≡ frames_sums v l
unfolding flat_map frames_sums
frames_heard v [] a = refl
frames_heard v (xs ∷ more) a = ap₂ {C = List ℤ} (λ x y. x ++ y) (taken_heard v xs a.0) (frames_heard (after_frame v xs) more a.1)

-- as many samples as were given
pub as_many : (v : EncoderView) (l : List (List ℤ)) → AllTaken v l → length (frames_sums v l) ≡ length (all_given l)
unfolding frames_sums all_given
as_many v [] a = refl
as_many v (xs ∷ more) a =
    omega (
      arith,
      length-append (frame_sums v xs) (frames_sums (after_frame v xs) more),
      length-append xs (all_given more),
      taken_many v xs a.0,
      as_many (after_frame v xs) more a.1,
    )

-- ---- the file header

head_magic : (total : ℕ) → be32 (head_bytes total) 0 ≡ magic
unfolding head_bytes
head_magic total = be_of_bytes 4 magic (bytes_of 4 total) (lit< tt)

-- ---- the file

module _ (total : ℕ) (v : EncoderView) (first : List ℤ) (others : List (List ℤ)) (a : AllTaken v (first ∷ others)) where
  abbrev bytes : List ℕ
  bytes = head_bytes total ++ frames_bytes v (first ∷ others)

  abbrev cut_for : Cut
  cut_for = record { head = head_bytes total; first = frame_bytes v first; others = frames_from (after_frame v first) others; tail = [] }

  in_grammar : IsCut cut_for bytes
  in_grammar =
      let frames = are_frames v (first ∷ others) a in
      record {
        head_whole = length_head total;
        head_magic = head_magic total;
        frames = same_frames (frames_from v (first ∷ others)) frames.0.same_channels frames.0.same_rate frames;
        tail_ok = tail_none;
        bytes = ap (λ (b : List ℕ). head_bytes total ++ b) (frames_joined v (first ∷ others));
      }

  pub tailless : HasCutWithoutTail bytes
  tailless = (cut_for, in_grammar, refl)

  audio : audio_of cut_for ≡ record { channels = v.channels; rate = v.rate; samples = frames_sums v (first ∷ others) }
  unfolding audio_of
  audio =
      let is = taken_frame v first a.0 in
      λ i. record { channels = is.same_channels i; rate = is.same_rate i; samples = frames_heard v (first ∷ others) a i }

  pub reads_back : (room : ℕ) → length bytes ≤ most_bytes → length (all_given (first ∷ others)) ≤ room
      → decode room bytes ≡ good (record { channels = v.channels; rate = v.rate; samples = frames_sums v (first ∷ others) })
  reads_back room few enough =
      let same = as_many v (first ∷ others) a in
      accepts room bytes cut_for in_grammar few (rw audio (omega arith)) ∙ ap (λ (x : Audio). good x) audio
