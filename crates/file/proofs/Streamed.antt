-- Streaming frames are accepted exactly where the bytes are whole good frames, in one way, and the samples are theirs in order. Assumes nothing.
use Prim.Native.Nat.{ℕ, ◌≤◌}
use mathlib.Core.Path.{◌≡◌, refl, sym, ap, ◌∙◌}
use mathlib.Core.List.{List, [], ◌∷◌}
use native.Mathlib.Omega.{arith}
use lib.IntN.{ℤ}
use lib.ListN.{length}
use Rattle.refusal.specs.Rules.{good, ◌then◌}
use Rattle.refusal.proofs.Rules.{Quiet, none_fires, after_good, then_good, good_same}
use Rattle.word.proofs.Tests.{tests}
use Rattle.format.specs.Grammar.{Each, joined}
use Rattle.file.specs.Walk.{Walk, room_rules, samples_of, walk_of}
use Rattle.file.specs.Streaming.{fitting, free_frames, samples_in, streamed}
use Rattle.file.proofs.Frames.{free_fit}
use Rattle.file.proofs.Walks.{walked, walks}
use Rattle.file.specs.Parts.{IsFree}

-- the bytes cut into whole good frames
pub record Split (b : List ℕ) (fs : List (List ℕ)) : Type 0 where
  pub frames : Each IsFree fs
  pub bytes : joined fs [] ≡ b

split_walks : (b : List ℕ) (fs : List (List ℕ)) → Split b fs → walk_of free_frames b ≡ good (record { frames = fs; tail = [] })
split_walks b fs s = rw (← s.bytes) (walks free_frames IsFree free_fit fs [] s.frames (omega (arith, tests)))

walk_splits : (b : List ℕ) (w : Walk) → walk_of free_frames b ≡ good w → Split b w.frames
walk_splits b w e =
    let found = walked free_frames IsFree free_fit b w e in
    let none_left : w.tail ≡ [] = empty w.tail (omega (arith, tests)) in
    record { frames = found.frames; bytes = rw none_left at found.bytes }
  where
    empty : (l : List ℕ) → length l ≡ 0 → l ≡ []
    empty [] z = refl
    empty (x ∷ l) z = absurd (omega arith)

pub one_split : (b : List ℕ) (fs gs : List (List ℕ)) → Split b fs → Split b gs → fs ≡ gs
one_split b fs gs s t = ap (λ (w : Walk). w.frames) (good_same _ _ (sym (split_walks b fs s) ∙ split_walks b gs t))

-- the samples, whatever the room
pub split_samples : (b : List ℕ) (fs : List (List ℕ)) → Split b fs → samples_in b ≡ good (samples_of fs)
unfolding samples_in
split_samples b fs s = rw (split_walks b fs s)

pub streams : (room : ℕ) (b : List ℕ) (fs : List (List ℕ)) → Split b fs → length (samples_of fs) ≤ room → streamed room b ≡ good (samples_of fs)
unfolding streamed
streams room b fs s enough =
    let q : Quiet (room_rules room (samples_of fs)) = omega (arith, tests) in
    rw (split_samples b fs s, none_fires (room_rules room (samples_of fs)) q)

pub record Streamed (room : ℕ) (b : List ℕ) (xs : List ℤ) : Type 0 where
  pub frames : List (List ℕ)
  pub split : Split b frames
  pub only : (fs : List (List ℕ)) → Split b fs → fs ≡ frames
  pub samples : xs ≡ samples_of frames
  pub enough_room : length xs ≤ room

pub streamed_is : (room : ℕ) (b : List ℕ) (xs : List ℤ) → streamed room b ≡ good xs → Streamed room b xs
unfolding streamed samples_in
streamed_is room b xs e =
    let found = then_good (walk_of free_frames b then λ w. good (samples_of w.frames)) (fitting room) xs e in
    let w = then_good (walk_of free_frames b) (λ w. good (samples_of w.frames)) found.0 found.1 in
    let passed = after_good (room_rules room found.0) (good found.0) xs found.2 in
    let same : found.0 ≡ xs = good_same _ xs passed.1 in
    let fits : length found.0 ≤ room = omega (arith, tests) in
    let split = walk_splits b w.0 w.1 in
    record {
      frames = w.0.frames;
      split = split;
      only = λ fs s. one_split b fs w.0.frames s split;
      samples = sym (good_same _ xs (ap good (good_same _ found.0 w.2) ∙ ap good same));
      enough_room = rw same at fits;
    }
