-- Frames that a survey has passed. Assumes nothing.
use Rattle.std.specs.Prelude.{ℕ, ◌≤◌, List, [], ◌∷◌, leb, ℤ, length}
use Rattle.refusal.specs.Rules.{Answer, Rule, ◌gives◌, good, refused, ◌then◌}
use Rattle.format.specs.declared.checks.Kind.TheVariants.{Any}
use Rattle.file.specs.Walk.{WalkRules, rules_at, samples_of, walk_of}

-- whole good frames, then fewer than 8 bytes
abbrev pub short_tail : ℕ → List Rule
short_tail left = (leb 8 left gives 5) ∷ []

abbrev pub held_frames : WalkRules
held_frames = record { frame = rules_at Any; tail = short_tail }

unfoldable pub held : List ℕ → Answer (List ℤ)
held b = walk_of held_frames b then λ w. good (samples_of w.frames)

-- there are such frames, and room for their samples
abbrev pub HasRoom : Answer (List ℤ) → ℕ → Type 0
HasRoom (refused n) room = ⊥
HasRoom (good xs) room = length xs ≤ room
