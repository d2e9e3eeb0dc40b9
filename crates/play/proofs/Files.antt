-- A file: what is played of it and what is said, in terms of its cut and of whole-file decoding's refusal. Assumes nothing.
use Prim.Native.Nat.{ℕ, ◌≤◌, ◌<◌}
use mathlib.Core.Path.{◌≡◌, refl, sym, ap, subst, ◌∙◌}
use mathlib.Core.Logic.{⊎_elim}
use mathlib.Core.Bool.{Bool, true, false}
use mathlib.Core.List.{List, [], ◌∷◌, ◌++◌, append-nil, flat_map}
use mathlib.Core.Option.{Option, none, some, none-ne-some}
use native.Mathlib.Omega.{arith}
use borrow.Author.Tests.{le-ltb}
use lib.Dec.{T, lit≤, ltb→lt}
use lib.IntN.{ℤ}
use lib.ListN.{length, take, drop, length-append, take-append-drop}
use lib.Seq.{drop_at, length-take-le}
use Rattle.refusal.specs.Rules.{◌gives◌, first_of, refused, ◌then◌}
use Rattle.word.proofs.BytesLaws.{be_append, be_take}
use Rattle.refusal.proofs.Rules.{Quiet, never, none_fires, quiet, then_refused, unless_refused}
use Rattle.word.proofs.Tests.{tests, nnot, notn}
use Rattle.format.specs.FileHeader.{file_rules, is_fixed, total_of}
use Rattle.format.specs.Header.{header_at}
use Rattle.format.specs.Grammar.{Cut, Each, IsCut, IsFrame, joined, tail_ok}
use Rattle.format.specs.declared.frame.FrameHeader.{FrameHeader}
use Rattle.format.proofs.Tails.{tail_short}
use Rattle.file.specs.Walk.{frame_at, past_frame, rules_at, samples_of, walk_of, with_frame}
use Rattle.file.specs.Whole.{audio_of, body_for, cut_of, like_first, some_rules, tail_rules, whole_file}
use Rattle.file.proofs.Frames.{frame_eight, header_same, whole_file_fit}
use Rattle.file.proofs.Walks.{walk_step}
use Rattle.file.proofs.Accepted.{HeadGood, head_good, quiet_head, same_frames}
use Rattle.play.specs.Played.{Played, before, body_played, file_played, frames_played, nothing, number, only, too_large, unless_said}
use Rattle.play.proofs.Terms.{FramesThen, Heard, Small, StopsLarge, channels_of, rate_of}
use Rattle.play.proofs.Frames.{is_large, large_is}
use Rattle.play.proofs.Walking.{first_frames, none_left, plays, plays_end, plays_too_large, refuses, samples_append, stopped}

-- ---- what is said is one thing

module _ {X : Type 0} where
  pub number_silent : (n : ℕ) → number n ≡ nothing → X
  number_silent n e = let z : ◌≡◌ {A = ℕ} 0 1 = cc in absurd (omega arith)

  pub number_large : (n : ℕ) → number n ≡ too_large → X
  number_large n e = let z : ◌≡◌ {A = ℕ} 0 1 = cc in absurd (omega arith)

  pub large_silent : too_large ≡ nothing → X
  large_silent e = let z : ◌≡◌ {A = ℕ} 0 1 = cc in absurd (omega arith)

-- ---- how it begins

-- no good file header, no frame, or frames
pub data Begun (b : List ℕ) : Played → Type 0 where
  no_header : (n : ℕ) → first_of (file_rules b) ≡ some n → Begun b (only (number n))
  no_frame : (n : ℕ) → HeadGood b → first_of (some_rules (drop 8 b)) ≡ some n → Begun b (only (number n))
  some_frame : HeadGood b → 8 ≤ length (drop 8 b) → Begun b (body_played (is_fixed (total_of b)) (drop 8 b))

pub begun : (b : List ℕ) → Begun b (file_played b)
unfolding file_played
begun b = head (first_of (file_rules b)) refl
  where
    rest : Played
    rest = body_played (is_fixed (total_of b)) (drop 8 b)

    first : (o : Option ℕ) → HeadGood b → first_of (some_rules (drop 8 b)) ≡ o → Begun b (unless_said o rest)
    first none h e = let q = quiet (some_rules (drop 8 b)) e in some_frame h (omega (arith, tests))
    first (some n) h e = no_frame n h e

    head : (o : Option ℕ) → first_of (file_rules b) ≡ o → Begun b (unless_said o (unless_said (first_of (some_rules (drop 8 b))) rest))
    head none e = first (first_of (some_rules (drop 8 b))) (head_good b (quiet (file_rules b) e)) refl
    head (some n) e = no_header n e

-- ---- a number is whole-file decoding's

body_refused : (fixed : Bool) (c r : ℕ) (b : List ℕ) (n : ℕ) → 8 ≤ length b → walk_of (whole_file fixed c r) b ≡ refused n
    → body_for fixed c r b ≡ refused n
unfolding body_for
body_refused fixed c r b n long e =
    let rest = walk_of (whole_file fixed c r) (past_frame b) in
    let walk = walk_step (whole_file fixed c r) b in
    let here = rw (le-ltb (length b) 8 long) at (sym walk ∙ e) in
    rw (none_fires (some_rules b) (omega (arith, tests)))
    (⊎_elim (λ f. rw f)
    (λ q. ⊎_elim (λ w. rw q.0 w) (λ y. never _ n y.2) (then_refused rest (with_frame (frame_at b)) n q.1))
    (unless_refused (first_of (rules_at (like_first fixed c r) b)) (rest then with_frame (frame_at b)) n here))

cut_refused : (b : List ℕ) (n : ℕ) → HeadGood b → body_for (is_fixed (total_of b)) (channels_of b) (rate_of b) (drop 8 b) ≡ refused n → cut_of b ≡ refused n
unfolding cut_of
cut_refused b n h e = rw (none_fires (file_rules b) (quiet_head b h), e)

pub file_refused : (b : List ℕ) (n : ℕ) → (file_played b).said ≡ number n → cut_of b ≡ refused n
unfolding cut_of body_for
file_refused b n = go (begun b)
  where
    fixed : Bool
    fixed = is_fixed (total_of b)

    go : {p : Played} → Begun b p → p.said ≡ number n → cut_of b ≡ refused n
    go (no_header m e) s = let same : m ≡ n = cc in rw (e, same)
    go (no_frame m h e) s = let same : m ≡ n = cc in cut_refused b n h (rw (e, same))
    go (some_frame h long) s =
        let t = stopped fixed (channels_of b) (rate_of b) (drop 8 b) in
        let walk = refuses fixed (channels_of b) (rate_of b) t.frames t.rest n t.are_frames (rw s at t.ended) in
        cut_refused b n h (body_refused fixed (channels_of b) (rate_of b) (drop 8 b) n long (rw t.bytes at walk))

-- ---- silence is a cut of the grammar whose frames are small

module _ (b : List ℕ) (h : HeadGood b) (long : 8 ≤ length (drop 8 b)) where
  cut_from : (fs : List (List ℕ)) (t : List ℕ) → Each (IsFrame (channels_of b) (rate_of b)) fs → Each Small fs → joined fs t ≡ drop 8 b
      → Quiet (tail_rules (length t)) → (k : Cut) × IsCut k b × Each Small (k.first ∷ k.others)
  cut_from [] t is few bytes q =
      let short = (whole_file_fit true 0 0).short (length t) q in
      absurd (omega (arith, ap length bytes))
  cut_from (f ∷ fs) t is few bytes q = (
    record { head = take 8 b; first = f; others = fs; tail = t },
    record {
      head_whole = length-take-le 8 b h.long;
      head_magic = be_take 4 8 b 0 (lit≤ tt) ∙ h.is_magic;
      frames = same_frames (f ∷ fs) is.0.same_channels is.0.same_rate is;
      tail_ok = nnot (tail_ok (length t) true) q.0;
      bytes = rw bytes (take-append-drop 8 b);
    },
    few,
  )

pub file_silent : (b : List ℕ) → (file_played b).said ≡ nothing → (k : Cut) × IsCut k b × Each Small (k.first ∷ k.others)
file_silent b = go (begun b)
  where
    go : {p : Played} → Begun b p → p.said ≡ nothing → (k : Cut) × IsCut k b × Each Small (k.first ∷ k.others)
    go (no_header m e) s = number_silent m s
    go (no_frame m h e) s = number_silent m s
    go (some_frame h long) s =
        let t = stopped (is_fixed (total_of b)) (channels_of b) (rate_of b) (drop 8 b) in
        cut_from b h long t.frames t.rest t.are_frames t.small t.bytes (rw s at t.ended)

-- ---- what is played after a good file header

module _ (b : List ℕ) (h : HeadGood b) where
  abbrev fixed : Bool
  fixed = is_fixed (total_of b)

  pub file_body : 8 ≤ length (drop 8 b) → file_played b ≡ frames_played (like_first fixed (channels_of b) (rate_of b)) (drop 8 b)
  unfolding file_played
  file_body long = rw (none_fires (file_rules b) (quiet_head b h), none_fires (some_rules (drop 8 b)) (omega (arith, tests)))

  -- frames and what follows them
  pub file_plays : (fs : List (List ℕ)) (t : List ℕ) → Each (IsFrame (channels_of b) (rate_of b)) fs → Each Small fs → joined fs t ≡ drop 8 b
      → 8 ≤ length (drop 8 b) → file_played b ≡ before (samples_of fs) (frames_played (like_first fixed (channels_of b) (rate_of b)) t)
  file_plays fs t is few bytes long =
      file_body long
      ∙ ap (frames_played (like_first fixed (channels_of b) (rate_of b))) (sym bytes)
      ∙ plays fixed (channels_of b) (rate_of b) fs t is few

-- a file that is a cut of small frames is played whole
module _ (b : List ℕ) (k : Cut) (i : IsCut k b) where
  abbrev after_head : List ℕ
  after_head = joined (k.first ∷ k.others) k.tail

  cut_head : HeadGood b
  cut_head =
      let magic-kept = be_append 4 k.head after_head 0 (omega arith) in
      rw (← i.bytes) (record { long = omega (arith, length-append k.head after_head); is_magic = magic-kept ∙ i.head_magic })

  cut_rest : after_head ≡ drop 8 b
  cut_rest = sym (drop_at k.head after_head 8 i.head_whole) ∙ ap (drop 8) i.bytes

  cut_long : 8 ≤ length (drop 8 b)
  cut_long = omega (arith, ap length cut_rest, length-append k.first (joined k.others k.tail), frame_eight (header_at k.first 0), i.frames.0.whole)

  cut_frames : Each (IsFrame (channels_of b) (rate_of b)) (k.first ∷ k.others)
  cut_frames =
      let same : header_at (drop 8 b) 0 ≡ header_at k.first 0 =
      ap (λ (l : List ℕ). header_at l 0) (sym cut_rest) ∙ header_same k.first (joined k.others k.tail) i.frames.0.whole in
      subst (λ (h : FrameHeader). Each (IsFrame h.channels h.rate) (k.first ∷ k.others)) (sym same) i.frames

  pub file_whole : Each Small (k.first ∷ k.others) → file_played b ≡ record { samples = (audio_of k).samples; said = nothing }
  unfolding audio_of
  file_whole few =
      let tail : Quiet (tail_rules (length k.tail)) = (notn (tail_ok (length k.tail) true) i.tail_ok, tt) in
      file_plays b cut_head (k.first ∷ k.others) k.tail cut_frames few cut_rest cut_long
      ∙ rw (plays_end (is_fixed (total_of b)) (channels_of b) (rate_of b) k.tail tail, append-nil)

  -- frames that start its bytes are its first, so their samples are the first of its audio
  pub first_samples : (fs : List (List ℕ)) (rest : List ℕ) → FramesThen b fs rest → (later : List ℤ) × (samples_of fs ++ later ≡ (audio_of k).samples)
  unfolding audio_of
  first_samples fs rest s =
      let short = tail_short (length k.tail) i.tail_ok in
      let more = first_frames (channels_of b) (rate_of b) fs (k.first ∷ k.others) rest k.tail s.are_frames cut_frames (s.bytes ∙ sym cut_rest) short in
      (samples_of more.0, sym (samples_append fs more.0) ∙ ap samples_of more.1)

-- ---- what is heard, whatever is said

-- a list of one rule
fired : (t : Bool) (n m : ℕ) → first_of ((t gives n) ∷ []) ≡ some m → T t
unfolding first_of
fired true n m e = tt
fired false n m e = absurd (none-ne-some m e)

rest_within : (fs : List (List ℕ)) (t : List ℕ) → length t ≤ length (joined fs t)
rest_within [] t = omega arith
rest_within (f ∷ fs) t = omega (arith, length-append f (joined fs t), rest_within fs t)

module _ (b : List ℕ) where
  nothing_heard : (n : ℕ) → (HeadGood b → length (drop 8 b) < 8) → Heard b (only (number n))
  unfolding flat_map
  nothing_heard n short =
      record {
        frames = [];
        rest = drop 8 b;
        start = record { are_frames = tt; small = tt; bytes = refl };
        samples = refl;
        headless = λ no-head. refl;
        no_more = λ h f t i few same. omega (arith, short h, ap length same, length-append f t, frame_eight (header_at f 0), i.whole);
        large = number_large n;
      }

  pub file_heard : Heard b (file_played b)
  file_heard = go (begun b)
    where
      go : {p : Played} → Begun b p → Heard b p
      go (no_header n e) = nothing_heard n (λ h. absurd (none-ne-some n (sym (none_fires (file_rules b) (quiet_head b h)) ∙ e)))
      go (no_frame n h e) = nothing_heard n (λ h. ltb→lt (length (drop 8 b)) 8 (fired _ 2 n e))
      go (some_frame h long) =
          let t = stopped (is_fixed (total_of b)) (channels_of b) (rate_of b) (drop 8 b) in
          record {
            frames = t.frames;
            rest = t.rest;
            start = record { are_frames = t.are_frames; small = t.small; bytes = t.bytes };
            samples = t.samples;
            headless = λ no-head. absurd (no-head h);
            no_more = λ h. none_left (is_fixed (total_of b)) (channels_of b) (rate_of b) (body_played (is_fixed (total_of b)) (drop 8 b)).said t.rest t.ended;
            large = λ s. record { head_good = h; large = is_large (is_fixed (total_of b)) (channels_of b) (rate_of b) t.rest (rw s at t.ended) };
          }

  pub file_too_large : (fs : List (List ℕ)) (rest : List ℕ) → FramesThen b fs rest → StopsLarge b rest → (file_played b).said ≡ too_large
  file_too_large fs rest s l =
      let fixed = is_fixed (total_of b) in
      let stop = plays_too_large fixed (channels_of b) (rate_of b) rest (large_is fixed (channels_of b) (rate_of b) rest l.large) in
      let long : 8 ≤ length (drop 8 b) = omega (arith, rest_within fs rest, ap length s.bytes, l.large.there) in
      let all = rw stop at (file_plays b l.head_good fs rest s.are_frames s.small s.bytes long) in
      ap (λ (p : Played). p.said) all
