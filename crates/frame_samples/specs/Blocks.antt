-- The samples of a frame in blocks, as little-endian bytes. Assumes nothing.
use Rattle.std.specs.Prelude.{ℕ, zero, suc, ◌+◌, ◌-◌, min, ◌≡◌, cond, List, [], ◌++◌, eqb, ℤ, length, take, drop}
use Rattle.word.specs.Little.{le_bytes}
use Rattle.refusal.specs.Rules.{good}
use Rattle.refusal.specs.Lent.{laid_over}
use Rattle.file.specs.Frame.{frame_samples}
use Rattle.frame_samples.specs.Places.{After}
use Rattle.frame_samples.specs.declared.InFrame.{InFrame}
use Rattle.frame_samples.specs.declared.NextBlock.{NextBlock}

-- how many samples the next block has, after `done` samples, with room for so many
abbrev pub next_count : List ℕ → ℕ → ℕ → ℕ
next_count f done room = min room (length (frame_samples f) - done)

-- those samples
abbrev pub next_samples : List ℕ → ℕ → ℕ → List ℤ
next_samples f done room = take (next_count f done room) (drop done (frame_samples f))

-- what the call promises, of the frame, the place and the lent memory: the count, the samples and their bytes in that memory, and the place after them
pub record BlockDone (f : List ℕ) (p : InFrame) (block : List ℤ) (bytes : List ℕ) (r : NextBlock) (block' : List ℤ) (bytes' : List ℕ) : Type 0 where
  pub count : r.count ≡ next_count f p.done (length block)
  pub samples : block' ≡ laid_over block 0 (good (next_samples f p.done (length block)))
  pub written : bytes' ≡ laid_over bytes 0 (good (le_bytes (next_samples f p.done (length block))))
  pub done : r.place.done ≡ p.done + next_count f p.done (length block)
  pub after : After f r.place

-- the bytes of the blocks after `done` samples, one after another until a block is empty, each with room for so many samples. `fuel` bounds the blocks
unfoldable pub blocks_by : ℕ → List ℕ → ℕ → ℕ → List ℕ
blocks_by zero f room done = []
blocks_by (suc fuel) f room done =
    cond (eqb (next_count f done room) 0)
    []
    (le_bytes (next_samples f done room) ++ blocks_by fuel f room (done + next_count f done room))
