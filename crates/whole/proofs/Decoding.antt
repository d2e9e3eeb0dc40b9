-- Decoding frames that a survey has passed: what one frame leaves in lent memory, and the end. Assumes nothing.
use Prim.Native.Nat.{ℕ, ◌+◌, ◌-◌, ◌≤◌, ◌<◌}
use mathlib.Core.Path.{◌≡◌, refl, sym, ap, ◌∙◌}
use mathlib.Core.List.{List, [], ◌++◌, flat_map}
use mathlib.Core.Option.{Option, none, some}
use native.Mathlib.Nat.{sub-add-eq, sub-zero}
use native.Mathlib.Omega.{arith}
use lib.IntN.{ℤ}
use lib.ListN.{length, drop, length-append}
use Rattle.refusal.specs.Rules.{Answer, first_of, good, refused, ◌then◌}
use Rattle.refusal.proofs.Rules.{Quiet, none_fires}
use Rattle.word.proofs.Tests.{tests}
use Rattle.format.specs.Format.{max_channels}
use Rattle.format.specs.Header.{header_at}
use Rattle.format.specs.Part.{length_of}
use Rattle.format.specs.Grammar.{Each, joined}
use Rattle.format.specs.declared.frame.FrameHeader.{FrameHeader}
use Rattle.format.specs.declared.checks.Kind.TheVariants.{Any}
use Rattle.format.proofs.Checking.{passed}
use Rattle.file.specs.Frame.{count_of, frame_samples}
use Rattle.file.specs.Walk.{Walk, past_frame, frame_at, rules_at, samples_of, walk_of, with_frame}
use Rattle.file.specs.Parts.{IsFree}
use Rattle.file.proofs.Frames.{Fit, free_fit, header_at_lem}
use Rattle.file.proofs.Needs.{frame_need}
use Rattle.file.proofs.Walks.{walks}
use Rattle.refusal.specs.Lent.{laid_over}
use Rattle.refusal.proofs.Lents.{length_over, over_nil, over_then}
use Rattle.whole.specs.Parts.{HasRoom, held, held_frames, short_tail}
use Rattle.survey.proofs.Walking.{walk_ended, walk_on, walk_refused}

-- ---- whole good frames are held

held_fit : Fit held_frames IsFree
held_fit = record { sound = free_fit.sound; quiet = free_fit.quiet; whole = free_fit.whole; short = λ n q. omega (arith, tests) }

short_quiet : (n : ℕ) → n < 8 → Quiet (short_tail n)
short_quiet n l = omega (arith, tests)

pub joined_held : (fs : List (List ℕ)) (tail : List ℕ) → Each IsFree fs → length tail < 8 → held (joined fs tail) ≡ good (samples_of fs)
unfolding held
joined_held fs tail free short = rw (walks held_frames IsFree held_fit fs tail free (short_quiet (length tail) short))

-- ---- one frame

-- the samples of the frame at the start of b come before those of what follows it
abbrev pub with_samples : List ℤ → Answer (List ℤ) → Answer (List ℤ)
with_samples f rest = rest then λ xs. good (f ++ xs)

pub record HeldOn (b : List ℕ) (h : FrameHeader) (room : ℕ) : Type 0 where
  pub few_channels : h.channels ≤ max_channels
  pub whole : length_of h ≤ length b
  pub counted : length (frame_samples (frame_at b)) ≡ count_of h
  pub fits : count_of h ≤ room
  pub rest : HasRoom (held (drop (length_of h) b)) (room - count_of h)
  pub same : held b ≡ with_samples (frame_samples (frame_at b)) (held (drop (length_of h) b))

-- where there is room for a frame and what follows it
room_parts : (f : List ℤ) (a : Answer (List ℤ)) (room : ℕ) → HasRoom (with_samples f a) room → (length f ≤ room) × HasRoom a (room - length f)
room_parts f (refused n) room h = absurd h
room_parts f (good xs) room h = let sum = length-append f xs in omega arith

module _ (b : List ℕ) where
  held_then : (a : Answer Walk) → (a then with_frame (frame_at b) then λ w. good (samples_of w.frames)) ≡ with_samples (frame_samples (frame_at b)) (a then λ w. good (samples_of w.frames))
  unfolding flat_map
  held_then (refused n) = refl
  held_then (good w) = refl

  by_rules : (room : ℕ) → 8 ≤ length b → HasRoom (held b) room → (o : Option ℕ) → first_of (rules_at Any b) ≡ o → first_of (rules_at Any b) ≡ none
  unfolding held
  by_rules room long h none e = e
  by_rules room long h (some n) e = absurd (rw (walk_refused held_frames b long n e) at h)

  pub held_on : (head : FrameHeader) (room : ℕ) → head ≡ header_at b 0 → 8 ≤ length b → HasRoom (held b) room → HeldOn b head room
  unfolding held
  held_on head room is_head long h =
      let quiet = by_rules room long h (first_of (rules_at Any b)) refl in
      let p = passed Any (header_at b 0) (length_of (header_at b 0)) (length b) quiet in
      let f = frame_samples (frame_at b) in
      let count : length f ≡ count_of (header_at b 0) = frame_need (frame_at b) ∙ ap count_of (header_at_lem b p.there) in
      let same : held b ≡ with_samples f (held (past_frame b)) = ap (λ (a : Answer Walk). a then λ w. good (samples_of w.frames)) (walk_on held_frames b long quiet) ∙ held_then (walk_of held_frames (past_frame b)) in
      let parts = room_parts f (held (past_frame b)) room (rw same at h) in
      rw is_head (record {
        few_channels = p.header.few_channels;
        whole = p.there;
        counted = count;
        fits = omega arith;
        rest = rw count at parts.1;
        same = same;
      })

-- ---- what it leaves

-- those of a frame, then those of the others
keep_on : (out f : List ℤ) (i k : ℕ) → length f ≡ k → i + k ≤ length out → (a : Answer (List ℤ)) (left : ℕ) → HasRoom a left → laid_over out i (with_samples f a) ≡ laid_over (laid_over out i (good f)) (i + k) a
keep_on out f i k size room (refused n) left h = absurd h
keep_on out f i k size room (good xs) left h = sym (over_then out i (i + k) f xs (omega arith) (omega arith))

-- ---- the end

pub held_end : (b : List ℕ) → length b < 8 → held b ≡ good []
unfolding held flat_map
held_end b short = rw (walk_ended held_frames b short (none_fires (short_tail (length b)) (short_quiet (length b) short)))

-- ---- a loop over the frames

-- what all frames leave in `lent` is what those of the rest leave, from the index `done` on, in `out`
pub record Decoded (s : List ℕ) (lent out : List ℤ) (b : List ℕ) (done : ℕ) : Type 0 where
  pub stored : done ≤ length out
  pub long : length out ≡ length lent
  pub room : HasRoom (held b) (length out - done)
  pub same : laid_over lent 0 (held s) ≡ laid_over out done (held b)

pub decoded_start : (s : List ℕ) (lent : List ℤ) → HasRoom (held s) (length lent) → Decoded s lent lent s 0
decoded_start s lent room = record { stored = omega arith; long = refl; room = rw sub-zero room; same = refl }

pub decoded_end : (s : List ℕ) (lent out : List ℤ) (b : List ℕ) (done : ℕ) → Decoded s lent out b done → length b < 8 → out ≡ laid_over lent 0 (held s)
decoded_end s lent out b done d short =
    sym (d.same ∙ ap (λ (a : Answer (List ℤ)). laid_over out done a) (held_end b short) ∙ over_nil out done)

module _ (s : List ℕ) (lent out : List ℤ) (b : List ℕ) (done : ℕ) (h : FrameHeader) (d : Decoded s lent out b done) (here : HeldOn b h (length out - done)) where
  there : done + length (frame_samples (frame_at b)) ≤ length out
  there = omega (arith, here.counted, here.fits, d.stored)

  next_long : length (laid_over out done (good (frame_samples (frame_at b)))) ≡ length out
  next_long = length_over out done (frame_samples (frame_at b)) there

  pub decoded_more : Decoded s lent (laid_over out done (good (frame_samples (frame_at b)))) (drop (length_of h) b) (done + count_of h)
  decoded_more =
      record {
        stored = omega (arith, next_long, here.fits, d.stored);
        long = next_long ∙ d.long;
        room = rw (next_long, sub-add-eq) here.rest;
        same =
            d.same
            ∙ ap (λ (a : Answer (List ℤ)). laid_over out done a) here.same
            ∙ keep_on out (frame_samples (frame_at b)) done (count_of h) here.counted (omega (arith, here.fits, d.stored)) (held (drop (length_of h) b)) _ here.rest;
      }
