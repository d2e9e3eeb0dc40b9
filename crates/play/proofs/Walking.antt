-- The frames one after another: which are played, and where and why the program stops. Assumes nothing.
use Prim.Native.Nat.{ℕ, zero, suc, ◌≤◌, ◌<◌}
use mathlib.Core.Path.{◌≡◌, refl, sym, ap, ap₂, ◌∙◌}
use mathlib.Core.Logic.{◌⊎◌, inl, inr}
use mathlib.Core.Bool.{Bool, true, false}
use mathlib.Core.List.{List, [], ◌∷◌, ◌++◌, append_assoc, flat_map}
use mathlib.Core.Option.{Option, none, some, none-ne-some}
use native.Mathlib.Omega.{arith}
use borrow.Author.Tests.{le-ltb, lt-ltb, ltb-false, ltb-true}
use lib.Dec.{ltb}
use lib.ListN.{length, length-append, length-drop, take-append-drop}
use lib.Seq.{length-take-le}
use Rattle.refusal.specs.Rules.{first_of, refused}
use Rattle.refusal.proofs.Rules.{Quiet, none_fires, quiet}
use Rattle.format.specs.Header.{header_at}
use Rattle.format.specs.Part.{length_of}
use Rattle.format.specs.Grammar.{Each, IsFrame, joined}
use Rattle.format.specs.declared.checks.Kind.{Kind}
use Rattle.file.specs.Frame.{frame_samples}
use Rattle.file.specs.Walk.{frame_at, past_frame, rules_at, samples_of, walk_of}
use Rattle.file.specs.Whole.{like_first, tail_rules, whole_file}
use Rattle.file.proofs.Frames.{after_frame_lem, frame_at_lem, frame_eight, frame_starts, header_same, is_frame, quiet_frame, starts, whole_file_fit}
use Rattle.file.proofs.Walks.{walk_step}
use Rattle.play.specs.Played.{Played, Said, before, frames_by, frames_played, most_held, nothing, number, only, or_say, step, too_large, unplayed}
use Rattle.play.proofs.Terms.{Small}
use Rattle.play.proofs.Frames.{TooLarge, Why, held_whole, said_too_large, why}

-- ---- without fuel

module _ (kind : Kind) where
  enough : (n m : ℕ) (b : List ℕ) → length b ≤ n → length b ≤ m → frames_by kind n b ≡ frames_by kind m b
  unfolding frames_by
  enough zero zero b p q = refl
  enough zero (suc m) b p q = rw (lt-ltb (length b) 8 (omega arith))
  enough (suc n) zero b p q = rw (lt-ltb (length b) 8 (omega arith))
  enough (suc n) (suc m) b p q =
      let less = length-drop (length_of (header_at b 0)) b in
      let full = frame_eight (header_at b 0) in
      rw (enough n m (past_frame b) (omega arith) (omega arith))

  pub play_step : (b : List ℕ) → frames_played kind b ≡ step (ltb (length b) 8) (unplayed kind b) b (frames_played kind (past_frame b))
  unfolding frames_played frames_by
  play_step [] = refl
  play_step (x ∷ xs) =
      let b = x ∷ xs in
      let less = length-drop (length_of (header_at b 0)) b in
      let full = frame_eight (header_at b 0) in
      rw (enough (length xs) (length (past_frame b)) (past_frame b) (omega arith) (omega arith))

-- ---- where the program stops

-- whole-file decoding refuses there: the end by its rules, or the frame
abbrev pub RefusedAt : Kind → ℕ → List ℕ → Type 0
RefusedAt kind n rest =
    ((length rest < 8) × (first_of (tail_rules (length rest)) ≡ some n)) ⊎ ((8 ≤ length rest) × (first_of (rules_at kind rest) ≡ some n))

-- what that which is said tells of the rest
abbrev pub Ended : Kind → Said → List ℕ → Type 0
Ended kind nothing rest = Quiet (tail_rules (length rest))
Ended kind (number n) rest = RefusedAt kind n rest
Ended kind too_large rest = TooLarge kind rest

-- frames that are played, and what is left
pub record Stopped (fixed : Bool) (c r : ℕ) (b : List ℕ) (p : Played) : Type 0 where
  pub frames : List (List ℕ)
  pub rest : List ℕ
  pub are_frames : Each (IsFrame c r) frames
  pub small : Each Small frames
  pub bytes : joined frames rest ≡ b
  pub samples : p.samples ≡ samples_of frames
  pub ended : Ended (like_first fixed c r) p.said rest

module _ (fixed : Bool) (c r : ℕ) where
  abbrev kind : Kind
  kind = like_first fixed c r

  stopped_here : (b : List ℕ) (s : Said) → Ended kind s b → Stopped fixed c r b (only s)
  unfolding flat_map
  stopped_here b s e = record { frames = []; rest = b; are_frames = tt; small = tt; bytes = refl; samples = refl; ended = e }

  at_end : (b : List ℕ) → length b < 8 → Stopped fixed c r b (only (or_say (first_of (tail_rules (length b))) nothing))
  at_end b short = stopped_here b _ (go (first_of (tail_rules (length b))) refl)
    where
      go : (o : Option ℕ) → first_of (tail_rules (length b)) ≡ o → Ended kind (or_say o nothing) b
      go none e = quiet (tail_rules (length b)) e
      go (some n) e = inl (short, e)

  with_frame_lem : (b : List ℕ) (p : Played) → Quiet (rules_at kind b) → length_of (header_at b 0) ≤ most_held → Stopped fixed c r (past_frame b) p
      → Stopped fixed c r b (before (frame_samples (frame_at b)) p)
  unfolding flat_map
  with_frame_lem b p q few s =
      let start = starts fixed c r b q in
      record {
        frames = frame_at b ∷ s.frames;
        rest = s.rest;
        are_frames = (is_frame c r b start, s.are_frames);
        small = (omega (arith, length-take-le (length_of (header_at b 0)) b start.room), s.small);
        bytes = rw s.bytes (take-append-drop (length_of (header_at b 0)) b);
        samples = ap (λ xs. frame_samples (frame_at b) ++ xs) s.samples;
        ended = s.ended;
      }

  stopped_by : (fuel : ℕ) (b : List ℕ) → length b ≤ fuel → Stopped fixed c r b (frames_by kind fuel b)
  unfolding frames_by
  stopped_by zero b few = at_end b (omega arith)
  stopped_by (suc fuel) b few =
      let less = length-drop (length_of (header_at b 0)) b in
      let full = frame_eight (header_at b 0) in
      go (ltb (length b) 8) refl (stopped_by fuel (past_frame b) (omega arith))
    where
      rest : Played
      rest = frames_by kind fuel (past_frame b)

      verdict : (s : Option Said) → 8 ≤ length b → Why kind b s → Stopped fixed c r (past_frame b) rest → Stopped fixed c r b (step false s b rest)
      verdict none long w ih = with_frame_lem b rest w.0 w.1 ih
      verdict (some nothing) long w ih = absurd w
      verdict (some (number n)) long w ih = stopped_here b (number n) (inr (long, w))
      verdict (some too_large) long w ih = stopped_here b too_large w

      go : (short : Bool) → ltb (length b) 8 ≡ short → Stopped fixed c r (past_frame b) rest → Stopped fixed c r b (step short (unplayed kind b) b rest)
      go true e ih = at_end b (ltb-true _ _ e)
      go false e ih = let long = ltb-false (length b) 8 e in verdict (unplayed kind b) long (why kind b long) ih

  pub stopped : (b : List ℕ) → Stopped fixed c r b (frames_played kind b)
  unfolding frames_played
  stopped b = stopped_by (length b) b (omega arith)

  -- no frame that the program could play stands where it stops
  pub none_left : (s : Said) (rest : List ℕ) → Ended kind s rest → (f t : List ℕ) → IsFrame c r f → Small f → f ++ t ≡ rest → ⊥
  none_left s rest e f t i few same = go s (rw (← same) at e)
    where
      long : 8 ≤ length (f ++ t)
      long = omega (arith, length-append f t, frame_eight (header_at f 0), i.whole)

      go : (s : Said) → Ended kind s (f ++ t) → ⊥
      go nothing q = omega (arith, long, (whole_file_fit fixed c r).short (length (f ++ t)) q)
      go (number n) (inl h) = omega (arith, long, h.0)
      go (number n) (inr h) =
          let passed = none_fires (rules_at kind (f ++ t)) (quiet_frame fixed c r (f ++ t) (frame_starts c r f t i)) in
          none-ne-some n (sym passed ∙ h.1)
      go too_large l = let over = rw (header_same f t i.whole) at l.over in omega (arith, i.whole)

  -- ---- frames before others

  -- frames that the program can play go before what follows
  pub plays : (fs : List (List ℕ)) (t : List ℕ) → Each (IsFrame c r) fs → Each Small fs
      → frames_played kind (joined fs t) ≡ before (samples_of fs) (frames_played kind t)
  unfolding flat_map
  plays [] t is few = refl
  plays (f ∷ fs) t is few =
      let rest = joined fs t in
      let b = f ++ rest in
      let whole = is.0.whole in
      let size : length_of (header_at b 0) ≤ most_held = rw (header_same f rest whole) (omega arith) in
      let long : 8 ≤ length b = omega (arith, length-append f rest, frame_eight (header_at f 0)) in
      let held = held_whole kind b long (quiet_frame fixed c r b (frame_starts c r f rest is.0)) size in
      play_step kind b
      ∙ rw (le-ltb (length b) 8 long, held, after_frame_lem f rest whole, frame_at_lem f rest whole, plays fs t is.1 few.1, append_assoc)

  -- at the end, and at a frame that is too large
  pub plays_end : (t : List ℕ) → Quiet (tail_rules (length t)) → frames_played kind t ≡ only nothing
  plays_end t q = play_step kind t ∙ rw (lt-ltb (length t) 8 ((whole_file_fit fixed c r).short (length t) q), none_fires (tail_rules (length t)) q)

  pub plays_too_large : (t : List ℕ) → TooLarge kind t → frames_played kind t ≡ only too_large
  plays_too_large t l = play_step kind t ∙ rw (le-ltb (length t) 8 l.there, said_too_large kind t l)

  -- whole-file decoding passes frames too, and then refuses
  pub refuses : (fs : List (List ℕ)) (t : List ℕ) (n : ℕ) → Each (IsFrame c r) fs → RefusedAt kind n t
      → walk_of (whole_file fixed c r) (joined fs t) ≡ refused n
  refuses [] t n is (inl h) = walk_step (whole_file fixed c r) t ∙ rw (lt-ltb (length t) 8 h.0, h.1)
  refuses [] t n is (inr h) = walk_step (whole_file fixed c r) t ∙ rw (le-ltb (length t) 8 h.0, h.1)
  refuses (f ∷ fs) t n is at =
      let rest = joined fs t in
      let b = f ++ rest in
      let whole = is.0.whole in
      let long : 8 ≤ length b = omega (arith, length-append f rest, frame_eight (header_at f 0)) in
      let passed = none_fires (rules_at kind b) (quiet_frame fixed c r b (frame_starts c r f rest is.0)) in
      walk_step (whole_file fixed c r) b ∙ rw (le-ltb (length b) 8 long, passed, after_frame_lem f rest whole, refuses fs t n is.1 at)

-- ---- frames that start one list

pub samples_append : (fs gs : List (List ℕ)) → samples_of (fs ++ gs) ≡ samples_of fs ++ samples_of gs
unfolding flat_map
samples_append [] gs = refl
samples_append (f ∷ fs) gs = ap (λ xs. frame_samples f ++ xs) (samples_append fs gs) ∙ sym (append_assoc (frame_samples f) (samples_of fs) (samples_of gs))

-- frames are the first of those that end with the list, which is shorter than a header after them
module _ (c r : ℕ) where
  pub first_frames : (fs gs : List (List ℕ)) (rest t : List ℕ) → Each (IsFrame c r) fs → Each (IsFrame c r) gs → joined fs rest ≡ joined gs t
      → length t < 8 → (hs : List (List ℕ)) × (fs ++ hs ≡ gs)
  first_frames [] gs rest t is js same short = (gs, refl)
  first_frames (f ∷ fs) [] rest t is js same short =
      absurd (omega (arith, ap length same, length-append f (joined fs rest), frame_eight (header_at f 0), is.0.whole))
  first_frames (f ∷ fs) (g ∷ gs) rest t is js same short =
      let x = joined fs rest in
      let y = joined gs t in
      let head : f ≡ g = sym (frame_at_lem f x is.0.whole) ∙ ap (λ l. frame_at l) same ∙ frame_at_lem g y js.0.whole in
      let tail : x ≡ y = sym (after_frame_lem f x is.0.whole) ∙ ap (λ l. past_frame l) same ∙ after_frame_lem g y js.0.whole in
      let more = first_frames fs gs rest t is.1 js.1 tail short in
      (more.0, ap₂ (λ l ls. l ∷ ls) head more.1)
