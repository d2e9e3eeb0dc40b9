-- A walk finds the frames of a grammar and a tail, and no others, for any reader that fits the grammar. Assumes nothing.
use Prim.Native.Nat.{ℕ, zero, suc, ◌≤◌}
use mathlib.Core.Path.{◌≡◌, refl, ◌∙◌}
use mathlib.Core.Bool.{Bool, true, false}
use mathlib.Core.List.{List, [], ◌∷◌, ◌++◌}
use native.Mathlib.Omega.{arith}
use borrow.Author.Tests.{le-ltb, lt-ltb}
use lib.Dec.{ltb}
use lib.ListN.{length, length-append, length-drop, take-append-drop}
use Rattle.refusal.specs.Rules.{Answer, good, first_of, ◌then◌}
use Rattle.refusal.proofs.Rules.{Quiet, none_fires, after_good, good_after, then_good, good_same}
use Rattle.format.specs.Header.{header_at}
use Rattle.format.specs.Part.{length_of}
use Rattle.format.specs.Grammar.{Each, joined}
use Rattle.file.specs.Walk.{WalkRules, Walk, past_frame, ends, frame_at, step, walk_by, walk_of, with_frame}
use Rattle.file.proofs.Frames.{Fit, after_frame_lem, frame_at_lem, frame_eight}

-- fuel for each byte is enough, and more changes nothing
pub enough : (R : WalkRules) (n m : ℕ) (b : List ℕ) → length b ≤ n → length b ≤ m → walk_by R n b ≡ walk_by R m b
unfolding walk_by
enough R zero zero b p q = refl
enough R zero (suc m) b p q = rw (lt-ltb (length b) 8 (omega arith))
enough R (suc n) zero b p q = rw (lt-ltb (length b) 8 (omega arith))
enough R (suc n) (suc m) b p q =
    let less = length-drop (length_of (header_at b 0)) b in
    let full = frame_eight (header_at b 0) in
    rw (enough R n m (past_frame b) (omega arith) (omega arith))

-- one step of the walk, for whoever walks the bytes without fuel
pub walk_step : (R : WalkRules) (b : List ℕ) → walk_of R b ≡ step R (ltb (length b) 8) b (first_of (R.frame b)) (walk_of R (past_frame b))
unfolding walk_of walk_by
walk_step R [] = refl
walk_step R (x ∷ xs) =
    let b = x ∷ xs in
    let less = length-drop (length_of (header_at b 0)) b in
    let full = frame_eight (header_at b 0) in
    rw (enough R (length xs) (length (past_frame b)) (past_frame b) (omega arith) (omega arith))

-- the frames and the tail make up b
pub record Walked (R : WalkRules) (Is : List ℕ → Type 0) (b : List ℕ) (w : Walk) : Type 0 where
  pub frames : Each Is w.frames
  pub tail_ok : Quiet (R.tail (length w.tail))
  pub bytes : joined w.frames w.tail ≡ b

module _ (R : WalkRules) (Is : List ℕ → Type 0) (fit : Fit R Is) where
  ended : (b : List ℕ) (w : Walk) → ends R b ≡ good w → Walked R Is b w
  ended b w e =
      let h = after_good (R.tail (length b)) (good (record { frames = []; tail = b })) w e in
      let same : record { frames = []; tail = b } ≡ w = good_same _ w h.1 in
      rw (← same) (record { frames = tt; tail_ok = h.0; bytes = refl })

  walked_by : (fuel : ℕ) (b : List ℕ) (w : Walk) → walk_by R fuel b ≡ good w → Walked R Is b w
  unfolding walk_by
  walked_by zero b w e = ended b w e
  walked_by (suc fuel) b w e = go (ltb (length b) 8) (walked_by fuel (past_frame b)) e
    where
      rest : Answer Walk
      rest = walk_by R fuel (past_frame b)

      go : (short : Bool) → ((v : Walk) → rest ≡ good v → Walked R Is (past_frame b) v)
          → step R short b (first_of (R.frame b)) rest ≡ good w → Walked R Is b w
      go true ih e = ended b w e
      go false ih e =
          let h = after_good (R.frame b) (rest then with_frame (frame_at b)) w e in
          let v = then_good rest (with_frame (frame_at b)) w h.1 in
          let same : record { frames = frame_at b ∷ v.0.frames; tail = v.0.tail } ≡ w = good_same _ w v.2 in
          let tail = ih v.0 v.1 in
          rw (← same) (record {
            frames = (fit.sound b h.0, tail.frames);
            tail_ok = tail.tail_ok;
            bytes = rw tail.bytes (take-append-drop (length_of (header_at b 0)) b);
          })

  pub walked : (b : List ℕ) (w : Walk) → walk_of R b ≡ good w → Walked R Is b w
  unfolding walk_of
  walked b w e = walked_by (length b) b w e

  pub walks : (fs : List (List ℕ)) (t : List ℕ) → Each Is fs → Quiet (R.tail (length t)) → walk_of R (joined fs t) ≡ good (record { frames = fs; tail = t })
  walks [] t is k = walk_step R t ∙ rw (lt-ltb (length t) 8 (fit.short (length t) k)) (good_after (R.tail (length t)) _ k)
  walks (f ∷ fs) t is k =
      let rest = joined fs t in
      let b = f ++ rest in
      let whole = fit.whole f is.0 in
      let parts = length-append f rest in
      let full = frame_eight (header_at f 0) in
      let long = le-ltb (length b) 8 (omega arith) in
      let passed = none_fires (R.frame b) (fit.quiet f rest is.0) in
      walk_step R b ∙ rw (long, passed, after_frame_lem f rest whole, frame_at_lem f rest whole, walks fs t is.1 k)
