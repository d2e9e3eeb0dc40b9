-- The files that are accepted, without a reader: a file header, one or more frames, a tail. Assumes nothing.
use Rattle.std.specs.Prelude.{ℕ, ◌/◌, ◌%◌, ◌≤◌, ◌<◌, ◌≡◌, Bool, true, List, [], ◌∷◌, ◌++◌, T, ltb, length}
use Rattle.word.specs.Bytes.{be32}
use Rattle.format.specs.Format.{max_channels, slices_per_frame, state_end}
use Rattle.format.specs.FileHeader.{magic}
use Rattle.format.specs.Header.{header_at, size_slices}
use Rattle.format.specs.Part.{length_of}
use Rattle.format.specs.declared.frame.FrameHeader.{FrameHeader}

-- the checks of a frame header
pub record Passes (h : FrameHeader) : Type 0 where
  pub some_channels : 0 < h.channels
  pub some_rate : 0 < h.rate
  pub past_state : state_end h.channels < h.size
  pub whole_groups : size_slices h % h.channels ≡ 0
  pub few_groups : size_slices h / h.channels ≤ slices_per_frame
  pub few_channels : h.channels ≤ max_channels

-- exactly the bytes of a frame with c channels at rate r
pub record IsFrame (c r : ℕ) (f : List ℕ) : Type 0 where
  pub passes : Passes (header_at f 0)
  pub same_channels : (header_at f 0).channels ≡ c
  pub same_rate : (header_at f 0).rate ≡ r
  pub whole : length f ≡ length_of (header_at f 0)

abbrev pub Each : {A : Type 0} → (A → Type 0) → List A → Type 0
Each P [] = Unit {0}
Each P (x ∷ xs) = P x × Each P xs

-- whether so many bytes may be left at the end, where a frame was read or not
unfoldable pub tail_ok : ℕ → Bool → Bool
tail_ok left read = ltb left 8

-- the parts of a file
pub record Cut : Type 0 where
  pub head : List ℕ
  pub first : List ℕ
  pub others : List (List ℕ)
  pub tail : List ℕ

-- the frames one after another, then the tail
abbrev pub joined : List (List ℕ) → List ℕ → List ℕ
joined [] tail = tail
joined (f ∷ fs) tail = f ++ joined fs tail

abbrev pub cut_bytes : Cut → List ℕ
cut_bytes k = k.head ++ joined (k.first ∷ k.others) k.tail

-- a way to cut the bytes of a file
pub record IsCut (k : Cut) (bs : List ℕ) : Type 0 where
  pub head_whole : length k.head ≡ 8
  pub head_magic : be32 k.head 0 ≡ magic
  pub frames : Each (IsFrame (header_at k.first 0).channels (header_at k.first 0).rate) (k.first ∷ k.others)
  pub tail_ok : T (tail_ok (length k.tail) true)
  pub bytes : cut_bytes k ≡ bs
