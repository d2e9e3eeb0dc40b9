-- The program: from the bytes of its input to the samples that it writes and what it says. Assumes nothing.
use Rattle.std.specs.Prelude.{ℕ, zero, suc, Bool, true, false, cond, List, [], ◌++◌, ltb, ℤ, length, take, drop}
use mathlib.Core.Option.{Option, none, some}
use Rattle.refusal.specs.Rules.{first_of}
use Rattle.format.specs.Format.{most_bytes}
use Rattle.format.specs.FileHeader.{file_rules, is_fixed, total_of}
use Rattle.format.specs.Header.{header_at}
use Rattle.format.specs.Part.{cut_rules, length_of}
use Rattle.format.specs.Checks.{frame_rules}
use Rattle.format.specs.declared.checks.Kind.{Kind}
use Rattle.file.specs.Frame.{frame_samples}
use Rattle.file.specs.Walk.{frame_at, past_frame}
use Rattle.file.specs.Whole.{like_first, some_rules, tail_rules}

-- what is said on standard error: nothing, the number of a refusal, or "frame too large"
pub data Said : Type 0 where
  nothing : Said
  number : ℕ → Said
  too_large : Said

-- what is written and then said
pub record Played : Type 0 where
  pub samples : List ℤ
  pub said : Said

abbrev pub only : Said → Played
only s = record { samples = []; said = s }

-- the refusal's number, if there is one
abbrev pub or_say : Option ℕ → Said → Said
or_say none s = s
or_say (some n) s = number n

-- ---- a frame

-- the most bytes of a frame that the program holds
abbrev pub most_held : ℕ
most_held = 65536

-- the refusal, if there is one
abbrev pub or_else : Option ℕ → Option Said → Option Said
or_else none s = s
or_else (some n) s = some (number n)

-- why the frame of a kind at the start of b is not played, if it is not: whole-file decoding's checks, but for the whole frame; too large; cut
unfoldable pub unplayed : Kind → List ℕ → Option Said
unplayed kind b =
    let h = header_at b 0 in
    or_else (first_of (frame_rules kind h 8 (length b)))
    (cond (ltb most_held (length_of h)) (some too_large)
    (or_else (first_of (cut_rules (length_of h) (length b))) none))

-- ---- the frames, one after another

abbrev pub before : List ℤ → Played → Played
before xs p = record { samples = xs ++ p.samples; said = p.said }

abbrev pub step : Bool → Option Said → List ℕ → Played → Played
step true s b rest = only (or_say (first_of (tail_rules (length b))) nothing)
step false (some s) b rest = only s
step false none b rest = before (frame_samples (frame_at b)) rest

-- under 8 bytes are the tail. `fuel` bounds the bytes that are left
unfoldable pub frames_by : Kind → ℕ → List ℕ → Played
frames_by kind zero b = only (or_say (first_of (tail_rules (length b))) nothing)
frames_by kind (suc fuel) b = step (ltb (length b) 8) (unplayed kind b) b (frames_by kind fuel (past_frame b))

unfoldable pub frames_played : Kind → List ℕ → Played
frames_played kind b = frames_by kind (length b) b

-- ---- a file

-- where no rule refuses
abbrev pub unless_said : Option ℕ → Played → Played
unless_said none p = p
unless_said (some n) p = only (number n)

-- after the file header: frames like the first of them
abbrev pub body_played : Bool → List ℕ → Played
body_played fixed b = frames_played (like_first fixed (header_at b 0).channels (header_at b 0).rate) b

unfoldable pub file_played : List ℕ → Played
file_played b =
    unless_said (first_of (file_rules b))
    (unless_said (first_of (some_rules (drop 8 b))) (body_played (is_fixed (total_of b)) (drop 8 b)))

-- ---- any input

-- 9 goes before every other number, and before silence
abbrev pub nine_first : Bool → Said → Said
nine_first false s = s
nine_first true too_large = too_large
nine_first true nothing = number 9
nine_first true (number n) = number 9

-- no more than the most bytes of a file are heard, and 9 tells that there were more
unfoldable pub played : List ℕ → Played
played b =
    let p = file_played (take most_bytes b) in
    record { samples = p.samples; said = nine_first (ltb most_bytes (length b)) p.said }
