-- One turn of a loop over frames, and its end, as facts about the walk of the definitions. Assumes nothing.
use Prim.Native.Nat.{ℕ, ◌+◌, ◌≤◌, ◌<◌, min, ◌-◌}
use mathlib.Core.Path.{◌≡◌, refl, sym, ap, ◌∙◌}
use mathlib.Core.List.{List, [], ◌∷◌, ◌++◌, flat_map}
use mathlib.Core.Logic.{dite}
use mathlib.Core.Option.{none, some}
use native.Mathlib.Decide.{dec_le}
use native.Mathlib.Nat.{add-zero, min-eq_left, min-eq_right}
use native.Mathlib.Omega.{arith}
use borrow.Author.Tests.{le-ltb, lt-ltb}
use lib.Dec.{ltb}
use lib.ListN.{length, length-append, drop, length-drop}
use Rattle.refusal.specs.Rules.{Answer, first_of, good, refused, ◌gives◌, ◌then◌}
use Rattle.refusal.proofs.Rules.{fires, none_fires}
use Rattle.word.proofs.Tests.{tests}
use Rattle.format.specs.Header.{header_at}
use Rattle.format.specs.Part.{length_of}
use Rattle.file.specs.Frame.{count_of, frame_samples}
use Rattle.file.specs.Walk.{WalkRules, Walk, past_frame, frame_at, samples_of, walk_of, with_frame}
use Rattle.file.proofs.Walks.{walk_step}
use Rattle.file.proofs.Needs.{frame_need}
use Rattle.file.proofs.Frames.{header_at_lem}
use Rattle.survey.specs.Parts.{fit_after, fits}
use lib.Seq.{drop-drop}
use Rattle.format.specs.declared.frame.FrameHeader.{FrameHeader}
use Rattle.file.proofs.Places.{header_here}

-- ---- the walk

module _ (R : WalkRules) (b : List ℕ) where
  pub walk_on : 8 ≤ length b → first_of (R.frame b) ≡ none → walk_of R b ≡ (walk_of R (past_frame b) then with_frame (frame_at b))
  walk_on long passed = walk_step R b ∙ rw (le-ltb (length b) 8 long, passed)

  pub walk_refused : 8 ≤ length b → (n : ℕ) → first_of (R.frame b) ≡ some n → walk_of R b ≡ refused n
  walk_refused long n e = walk_step R b ∙ rw (le-ltb (length b) 8 long, e)

  pub walk_ended : length b < 8 → first_of (R.tail (length b)) ≡ none → walk_of R b ≡ good (record { frames = []; tail = b })
  walk_ended short ok = walk_step R b ∙ rw (lt-ltb (length b) 8 short, ok)

  pub walk_tail : length b < 8 → (n : ℕ) → first_of (R.tail (length b)) ≡ some n → walk_of R b ≡ refused n
  walk_tail short n e = walk_step R b ∙ rw (lt-ltb (length b) 8 short, e)

-- ---- a count that stops one past the room

pub fits_good : (room n : ℕ) → n ≤ room → fits room n ≡ good n
unfolding fits
fits_good room n l = rw (none_fires ((ltb room n gives 7) ∷ []) (omega (arith, tests)))

pub fits_not : (room n : ℕ) → room < n → fits room n ≡ refused 7
unfolding fits
fits_not room n l = rw (fires 0 ((ltb room n gives 7) ∷ []) 7 (omega (arith, tests)))

pub fits_capped : (room n k : ℕ) → fits room (min n (room + 1) + k) ≡ fits room (n + k)
fits_capped room n k =
    dite (dec_le n (room + 1))
    (λ few. rw (min-eq_left few))
    (λ many.
    let capped : min n (room + 1) ≡ room + 1 = min-eq_right {n = room + 1} {m = n} (omega arith) in
    fits_not room (min n (room + 1) + k) (rw capped (omega arith)) ∙ sym (fits_not room (n + k) (omega arith)))

-- ---- a turn

-- the frame at the start of b is counted
module _ (R : WalkRules) (room before : ℕ) (b : List ℕ) (whole : length_of (header_at b 0) ≤ length b) where
  counted : (a : Answer Walk)
      → (a then with_frame (frame_at b) then λ w. fits room (before + length (samples_of w.frames)))
      ≡ (a then λ w. fits room (min (before + count_of (header_at b 0)) (room + 1) + length (samples_of w.frames)))
  unfolding flat_map
  counted (refused n) = refl
  counted (good w) =
      let same : count_of (header_at (frame_at b) 0) ≡ count_of (header_at b 0) = ap count_of (header_at_lem b whole) in
      let rest = length (samples_of w.frames) in
      let sum : before + length (frame_samples (frame_at b) ++ samples_of w.frames) ≡ before + count_of (header_at b 0) + rest =
      omega (arith, length-append (frame_samples (frame_at b)) (samples_of w.frames), frame_need (frame_at b)) in
      ap (fits room) sum ∙ sym (fits_capped room (before + count_of (header_at b 0)) rest)

  pub one_frame : 8 ≤ length b → first_of (R.frame b) ≡ none
      → fit_after R room before b ≡ fit_after R room (min (before + count_of (header_at b 0)) (room + 1)) (past_frame b)
  unfolding fit_after
  one_frame long passed =
      ap (λ (a : Answer Walk). a then λ w. fits room (before + length (samples_of w.frames))) (walk_on R b long passed)
      ∙ counted (walk_of R (past_frame b))

-- what follows the frame at a place
pub after_here : (s : List ℕ) (at : ℕ) (h : FrameHeader) → header_at s at ≡ h → past_frame (drop at s) ≡ drop (at + length_of h) s
after_here s at h e =
    ap (λ (z : FrameHeader). drop (length_of z) (drop at s)) (header_here s at ∙ e) ∙ drop-drop (length_of h) at s

module _ (R : WalkRules) (room before : ℕ) (s : List ℕ) (at : ℕ) where
  pub turn : (h : FrameHeader) → header_at s at ≡ h → 8 ≤ length s - at → length_of h ≤ length s - at → first_of (R.frame (drop at s)) ≡ none
      → fit_after R room before (drop at s) ≡ fit_after R room (min (before + count_of h) (room + 1)) (drop (at + length_of h) s)
  turn h e long whole passed =
      let here : header_at (drop at s) 0 ≡ h = header_here s at ∙ e in
      let size = length-drop at s in
      one_frame R room before (drop at s) (rw (here, size) whole) (omega arith) passed
      ∙ rw (after_here s at h e, ap count_of here)

-- a walk that ends, with so many samples before
module _ (R : WalkRules) (room before : ℕ) (b : List ℕ) where
  pub refused_turn : (n : ℕ) → 8 ≤ length b → first_of (R.frame b) ≡ some n → fit_after R room before b ≡ refused n
  unfolding fit_after
  refused_turn n long e = rw (walk_refused R b long n e)

  pub ended : length b < 8 → first_of (R.tail (length b)) ≡ none → fit_after R room before b ≡ fits room before
  unfolding fit_after flat_map
  ended short e = rw (walk_ended R b short e, add-zero)

  pub refused_end : (n : ℕ) → length b < 8 → first_of (R.tail (length b)) ≡ some n → fit_after R room before b ≡ refused n
  unfolding fit_after
  refused_end n short e = rw (walk_tail R b short n e)
