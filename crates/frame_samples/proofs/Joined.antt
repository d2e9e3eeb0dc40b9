-- A frame's blocks, one after another, are the bytes of its samples. Assumes nothing.
use Prim.Native.Nat.{ℕ, zero, suc, ◌+◌, ◌-◌, ◌*◌, ◌≤◌, ◌<◌}
use mathlib.Core.Path.{◌≡◌, ap, sym, ◌∙◌}
use mathlib.Core.List.{List, [], ◌++◌}
use mathlib.Core.Logic.{dite}
use native.Mathlib.Decide.{dec_lt}
use native.Mathlib.Omega.{arith}
use borrow.Author.Tests.{eq-eqb, ne_eqb}
use lib.IntN.{ℤ}
use lib.ListN.{length, take, drop, drop_of_length-le, take-append-drop}
use lib.Seq.{drop-drop}
use Rattle.refusal.proofs.Lents.{over_front}
use Rattle.word.specs.Little.{le_bytes}
use Rattle.word.proofs.LittleLaws.{bytes_append, length_bytes}
use Rattle.file.specs.Frame.{frame_samples}
use Rattle.frame_samples.specs.Blocks.{BlockDone, blocks_by, next_count, next_samples}
use Rattle.frame_samples.specs.declared.InFrame.{InFrame}
use Rattle.frame_samples.specs.declared.NextBlock.{NextBlock}
use Rattle.frame_samples.proofs.Going.{length_next}

-- the bytes of a block stand at the start of the lent bytes
pub block_bytes : (f : List ℕ) (p : InFrame) (block : List ℤ) (bytes : List ℕ) (r : NextBlock) (block' : List ℤ) (bytes' : List ℕ) → BlockDone f p block bytes r block' bytes'
    → take (r.count * 2) bytes' ≡ le_bytes (next_samples f p.done (length block))
block_bytes f p block bytes r block' bytes' b =
    let next : List ℤ = next_samples f p.done (length block) in
    let long : length (le_bytes next) ≡ r.count * 2 = length_bytes next ∙ ap (λ (n : ℕ). n * 2) (length_next f p.done (length block) ∙ sym b.count) in
    ap (take (r.count * 2)) b.written ∙ over_front bytes (le_bytes next) (r.count * 2) long

module _ (f : List ℕ) (room : ℕ) (some : 0 < room) where
  -- no sample is left
  none_left : (done : ℕ) → length (frame_samples f) ≤ done → [] ≡ le_bytes (drop done (frame_samples f))
  unfolding le_bytes
  none_left done h = rw (drop_of_length-le (frame_samples f) h)

  blocks_from : (fuel done : ℕ) → length (frame_samples f) - done ≤ fuel → blocks_by fuel f room done ≡ le_bytes (drop done (frame_samples f))
  unfolding blocks_by
  blocks_from zero done h = none_left done (omega arith)
  blocks_from (suc fuel) done h =
      let n : ℕ = next_count f done room in
      let rest : List ℤ = drop done (frame_samples f) in
      dite (dec_lt 0 n)
      (λ more.
      let test = ne_eqb n 0 (λ e. omega arith) in
      rw test
      (ap (λ (l : List ℕ). le_bytes (take n rest) ++ l) (blocks_from fuel (done + n) (omega arith) ∙ ap le_bytes (sym (drop-drop n done (frame_samples f))))
      ∙ sym (bytes_append (take n rest) (drop n rest))
      ∙ ap le_bytes (take-append-drop n rest)))
      (λ none.
      let test = eq-eqb n 0 (omega arith) in
      rw test (none_left done (omega arith)))

  -- all of them, from the first on
  pub blocks_joined : (fuel : ℕ) → length (frame_samples f) ≤ fuel → blocks_by fuel f room 0 ≡ le_bytes (frame_samples f)
  blocks_joined fuel h = blocks_from fuel 0 (omega arith)
