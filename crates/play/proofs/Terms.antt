-- The words of the theorems on the program. Assumes nothing.
use Prim.Native.Nat.{ℕ, ◌≤◌, ◌<◌}
use mathlib.Core.Path.{◌≡◌}
use mathlib.Core.Bool.{Bool, false}
use mathlib.Core.List.{List, [], ◌++◌}
use lib.ListN.{length, drop}
use Rattle.format.specs.Format.{state_end}
use Rattle.format.specs.FileHeader.{is_fixed, total_of}
use Rattle.format.specs.Header.{header_at}
use Rattle.format.specs.Part.{length_of}
use Rattle.format.specs.Grammar.{Each, IsFrame, Passes, joined}
use Rattle.file.specs.Walk.{samples_of}
use Rattle.file.proofs.Accepted.{HeadGood}
use Rattle.play.specs.Played.{Played, most_held, too_large}

-- a frame that the program holds
abbrev pub Small : List ℕ → Type 0
Small f = length f ≤ most_held

-- the channels and the rate of the first frame of a file
abbrev pub channels_of : List ℕ → ℕ
channels_of b = (header_at (drop 8 b) 0).channels

abbrev pub rate_of : List ℕ → ℕ
rate_of b = (header_at (drop 8 b) 0).rate

-- frames like the first, each held, and what follows them: all bytes after the file header
pub record FramesThen (b : List ℕ) (frames : List (List ℕ)) (rest : List ℕ) : Type 0 where
  pub are_frames : Each (IsFrame (channels_of b) (rate_of b)) frames
  pub small : Each Small frames
  pub bytes : joined frames rest ≡ drop 8 b

-- b starts with the header of a frame with c channels at rate r that no check refuses, and that is too large; in streaming mode the state is there
pub record LargeFrame (fixed : Bool) (c r : ℕ) (b : List ℕ) : Type 0 where
  pub there : 8 ≤ length b
  pub passes : Passes (header_at b 0)
  pub same_channels : (header_at b 0).channels ≡ c
  pub same_rate : (header_at b 0).rate ≡ r
  pub state_there : fixed ≡ false → state_end c ≤ length b
  pub over : most_held < length_of (header_at b 0)

-- the rest of a file with a good header starts with such a frame, like the first
pub record StopsLarge (b rest : List ℕ) : Type 0 where
  pub head_good : HeadGood b
  pub large : LargeFrame (is_fixed (total_of b)) (channels_of b) (rate_of b) rest

-- what is heard of a file: the samples of its first frames, and of no fewer than can be played
pub record Heard (b : List ℕ) (p : Played) : Type 0 where
  pub frames : List (List ℕ)
  pub rest : List ℕ
  pub start : FramesThen b frames rest
  pub samples : p.samples ≡ samples_of frames
  -- none, where the file header is not good
  pub headless : ¬ HeadGood b → frames ≡ []
  -- else the rest does not start with one more
  pub no_more : HeadGood b → (f t : List ℕ) → IsFrame (channels_of b) (rate_of b) f → Small f → f ++ t ≡ rest → ⊥
  -- and where a frame is too large, it comes next
  pub large : p.said ≡ too_large → StopsLarge b rest
