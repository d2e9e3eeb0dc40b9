-- A walk over the frames of a list, by a reader's rules. Assumes nothing.
use Rattle.std.specs.Prelude.{ℕ, zero, suc, ◌+◌, Bool, true, false, ltb, ℤ, length, take, drop}
use mathlib.Core.List.{List, [], ◌∷◌, flat_map}
use mathlib.Core.Option.{Option}
use Rattle.refusal.specs.Rules.{Answer, good, Rule, ◌gives◌, first_of, unless, after, ◌then◌}
use Rattle.format.specs.Header.{header_at}
use Rattle.format.specs.Part.{length_of}
use Rattle.format.specs.Checks.{frame_rules}
use Rattle.format.specs.declared.checks.Kind.{Kind}
use Rattle.file.specs.Frame.{count_of, frame_samples}

-- the frame at the start of b, and what follows it
abbrev pub frame_at : List ℕ → List ℕ
frame_at b = take (length_of (header_at b 0)) b

abbrev pub past_frame : List ℕ → List ℕ
past_frame b = drop (length_of (header_at b 0)) b

-- the checks of a whole frame of a kind at the start of b
abbrev pub rules_at : Kind → List ℕ → List Rule
rules_at kind b = let h = header_at b 0 in frame_rules kind h (length_of h) (length b)

-- the rules for a frame at the start of a list, and for an end with so many bytes left
pub record WalkRules : Type 0 where
  pub frame : List ℕ → List Rule
  pub tail : ℕ → List Rule

-- what a walk finds
pub record Walk : Type 0 where
  pub frames : List (List ℕ)
  pub tail : List ℕ

abbrev pub ends : WalkRules → List ℕ → Answer Walk
ends R b = after (R.tail (length b)) (good (record { frames = []; tail = b }))

abbrev pub with_frame : List ℕ → Walk → Answer Walk
with_frame f w = good (record { frames = f ∷ w.frames; tail = w.tail })

abbrev pub step : WalkRules → Bool → List ℕ → Option ℕ → Answer Walk → Answer Walk
step R true b refusal rest = ends R b
step R false b refusal rest = unless refusal (rest then with_frame (frame_at b))

-- under 8 bytes are the tail. `fuel` bounds the bytes that are left
unfoldable pub walk_by : WalkRules → ℕ → List ℕ → Answer Walk
walk_by R zero b = ends R b
walk_by R (suc fuel) b =
    let rest = walk_by R fuel (past_frame b) in
    step R (ltb (length b) 8) b (first_of (R.frame b)) rest

unfoldable pub walk_of : WalkRules → List ℕ → Answer Walk
walk_of R b = walk_by R (length b) b

-- the samples of frames, one after another
abbrev pub samples_of : List (List ℕ) → List ℤ
samples_of fs = flat_map frame_samples fs

-- how many these are, by the frames' headers
abbrev pub counts_of : List (List ℕ) → ℕ
counts_of [] = 0
counts_of (f ∷ fs) = count_of (header_at f 0) + counts_of fs

-- output shorter than the exact need
abbrev pub room_rules : ℕ → List ℤ → List Rule
room_rules room samples = (ltb room (length samples) gives 7) ∷ []
