-- Whole-file decoding, with its order of refusals. Assumes nothing.
use Rattle.std.specs.Prelude.{ℕ, Bool, true, not, List, [], ◌∷◌, ltb, ℤ, length, take, drop}
use Rattle.refusal.specs.Rules.{Answer, good, Rule, ◌gives◌, after, ◌then◌}
use Rattle.format.specs.Format.{most_bytes}
use Rattle.format.specs.FileHeader.{file_rules, is_fixed, total_of}
use Rattle.format.specs.Header.{header_at}
use Rattle.format.specs.Grammar.{Cut, tail_ok}
use Rattle.format.specs.declared.checks.Kind.{Kind}
use Rattle.format.specs.declared.checks.Kind.TheVariants.{Like}
use Rattle.file.specs.Walk.{WalkRules, Walk, past_frame, frame_at, room_rules, rules_at, samples_of, walk_of}

-- ---- what a file holds

pub record Audio : Type 0 where
  pub channels : ℕ
  pub rate : ℕ
  pub samples : List ℤ

unfoldable pub audio_of : Cut → Audio
audio_of k =
    record {
      channels = (header_at k.first 0).channels;
      rate = (header_at k.first 0).rate;
      samples = samples_of (k.first ∷ k.others);
    }

-- ---- the frames of a file

-- frames like the first, which has c channels and rate r
abbrev pub like_first : Bool → ℕ → ℕ → Kind
like_first fixed c r = Like (record { fixed = fixed; channels = c; rate = r })

-- the bytes after the last frame; never fires while `tail_ok` accepts every end under 8 bytes
abbrev pub tail_rules : ℕ → List Rule
tail_rules left = (not (tail_ok left true) gives 5) ∷ []

abbrev pub whole_file : Bool → ℕ → ℕ → WalkRules
whole_file fixed c r = record { frame = rules_at (like_first fixed c r); tail = tail_rules }

-- fewer than 8 bytes after the file header
abbrev pub some_rules : List ℕ → List Rule
some_rules b = (ltb (length b) 8 gives 2) ∷ []

-- the first frame, at the start of b, for which 4 never fires since it is like itself, and the walk over those that are to be like it
unfoldable pub body_for : Bool → ℕ → ℕ → List ℕ → Answer Walk
body_for fixed c r b = after (some_rules b) (after (rules_at (like_first fixed c r) b) (walk_of (whole_file fixed c r) (past_frame b)))

abbrev pub body : Bool → List ℕ → Answer Walk
body fixed b = body_for fixed (header_at b 0).channels (header_at b 0).rate b

-- ---- a whole file

abbrev pub with_first : List ℕ → List ℕ → Walk → Answer Cut
with_first head first w = good (record { head = head; first = first; others = w.frames; tail = w.tail })

unfoldable pub cut_of : List ℕ → Answer Cut
cut_of b = after (file_rules b) (body (is_fixed (total_of b)) (drop 8 b) then with_first (take 8 b) (frame_at (drop 8 b)))

abbrev pub long_rules : List ℕ → List Rule
long_rules b = (ltb most_bytes (length b) gives 9) ∷ []

-- what the file holds, whatever the room
unfoldable pub audio_in : List ℕ → Answer Audio
audio_in b = after (long_rules b) (cut_of b then λ k. good (audio_of k))

abbrev pub with_room : ℕ → Audio → Answer Audio
with_room room a = after (room_rules room a.samples) (good a)

-- into an output with room for so many samples
unfoldable pub decode : ℕ → List ℕ → Answer Audio
decode room b = audio_in b then with_room room
