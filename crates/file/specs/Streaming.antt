-- Streaming frames: whole frames one after another, with channel changes allowed. Assumes nothing.
use Rattle.std.specs.Prelude.{ℕ, not, List, [], ◌∷◌, eqb, ℤ}
use Rattle.refusal.specs.Rules.{Answer, good, Rule, ◌gives◌, after, ◌then◌}
use Rattle.format.specs.declared.checks.Kind.TheVariants.{Any}
use Rattle.file.specs.Walk.{WalkRules, room_rules, rules_at, samples_of, walk_of}

-- 1 to 7 bytes left over are 5
abbrev pub no_tail : ℕ → List Rule
no_tail left = (not (eqb left 0) gives 5) ∷ []

abbrev pub free_frames : WalkRules
free_frames = record { frame = rules_at Any; tail = no_tail }

-- the samples of all frames, whatever the room
unfoldable pub samples_in : List ℕ → Answer (List ℤ)
samples_in b = walk_of free_frames b then λ w. good (samples_of w.frames)

abbrev pub fitting : ℕ → List ℤ → Answer (List ℤ)
fitting room xs = after (room_rules room xs) (good xs)

-- into an output with room for so many
unfoldable pub streamed : ℕ → List ℕ → Answer (List ℤ)
streamed room b = samples_in b then fitting room
