-- The survey: which frames a walk accepts, and how many samples they have, by headers alone. Assumes nothing.
use Rattle.std.specs.Prelude.{ℕ, ◌+◌, Bool, List, [], ◌∷◌, ltb, length, take, drop}
use Rattle.refusal.specs.Rules.{Answer, ◌gives◌, after, good, ◌then◌}
use Rattle.format.specs.declared.checks.Kind.{Kind}
use Rattle.format.specs.declared.checks.Kind.TheVariants.{Any, Like}
use Rattle.file.specs.Walk.{WalkRules, frame_at, samples_of, walk_of}
use Rattle.file.specs.Whole.{Audio, audio_of, body, whole_file, with_first}
use Rattle.file.specs.Streaming.{free_frames}

-- the rules of a walk over frames of a kind
abbrev pub reader_for : Kind → WalkRules
reader_for Any = free_frames
reader_for (Like f) = whole_file f.fixed f.channels f.rate

-- so many samples, where there is room for them
unfoldable pub fits : ℕ → ℕ → Answer ℕ
fits room n = after ((ltb room n gives 7) ∷ []) (good n)

-- the samples of the frames in b, and so many before them, where there is room for all
unfoldable pub fit_after : WalkRules → ℕ → ℕ → List ℕ → Answer ℕ
fit_after R room before b = walk_of R b then λ w. fits room (before + length (samples_of w.frames))

-- what a file with a good header holds, by its mode
unfoldable pub audio_after : Bool → List ℕ → Answer Audio
audio_after fixed b = body fixed (drop 8 b) then with_first (take 8 b) (frame_at (drop 8 b)) then λ k. good (audio_of k)
