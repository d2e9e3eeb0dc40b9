-- The stages of whole-file decoding, as facts about its definition. Assumes nothing.
use Prim.Native.Nat.{ℕ, ◌+◌, ◌*◌, ◌≤◌, ◌<◌}
use mathlib.Core.Path.{◌≡◌, refl, sym, ap, ◌∙◌}
use mathlib.Core.Bool.{Bool}
use mathlib.Core.List.{List, [], ◌∷◌}
use mathlib.Core.Option.{Option, none, some}
use native.Mathlib.Nat.{zero-add}
use native.Mathlib.Omega.{arith}
use borrow.Author.Tests.{le-ltb}
use lib.ListN.{length, take, drop, length-drop}
use Rattle.refusal.specs.Rules.{Answer, first_of, good, refused, unless, ◌then◌}
use Rattle.refusal.proofs.Rules.{fires, never, none_fires, quiet}
use Rattle.word.proofs.Tests.{tests}
use Rattle.format.specs.Format.{most_bytes}
use Rattle.format.specs.FileHeader.{file_rules, is_fixed, total_of}
use Rattle.format.specs.Header.{header_at}
use Rattle.format.specs.Part.{length_of}
use Rattle.format.specs.Grammar.{Each, IsFrame, joined}
use Rattle.format.specs.declared.frame.FrameHeader.{FrameHeader}
use Rattle.format.proofs.FileHeaders.{file_good}
use Rattle.file.specs.Walk.{Walk, past_frame, frame_at, rules_at, samples_of, walk_of, with_frame}
use Rattle.file.specs.Whole.{audio_in, audio_of, body, body_for, cut_of, like_first, long_rules, some_rules, whole_file, with_first}
use Rattle.file.proofs.Accepted.{quiet_head}
use Rattle.file.proofs.Frames.{header_at_lem, starts, whole_file_fit}
use Rattle.file.proofs.Walks.{walk_step, walked}
use Rattle.file.proofs.Needs.{frames_need, need_small}
use Rattle.whole.specs.Told.{summary_in}
use Rattle.survey.specs.Parts.{audio_after, fit_after, fits}
use Rattle.refusal.specs.declared.Summary.{Summary}
use Rattle.survey.proofs.Walking.{fits_good, walk_on}
use Rattle.format.specs.Parts.{file_header}

-- ---- before the frames

-- one refusal of rules is a refusal of whatever they stand before
same_refusal : {A B : Type 0} (o : Option ℕ) (x : A) (y : Answer B) (n : ℕ) → unless o (good x) ≡ refused n → unless o y ≡ refused n
same_refusal none x y n e = never x n e
same_refusal {B = B} (some m) x y n e = ap {B = Answer B} refused (cc)

module _ (b : List ℕ) where
  pub too_long : most_bytes < length b → audio_in b ≡ refused 9
  unfolding audio_in
  too_long l = rw (fires 0 (long_rules b) 9 (omega (arith, tests)))

  pub bad_head : length b ≤ most_bytes → (n : ℕ) → file_header b ≡ refused n → audio_in b ≡ refused n
  unfolding audio_in cut_of file_header
  bad_head l n e =
      rw (none_fires (long_rules b) (omega (arith, tests)), same_refusal (first_of (file_rules b)) (total_of b) (body (is_fixed (total_of b)) (drop 8 b) then with_first (take 8 b) (frame_at (drop 8 b))) n e)

  pub good_head : length b ≤ most_bytes → (total : ℕ) → file_header b ≡ good total → audio_in b ≡ audio_after (is_fixed total) b
  unfolding audio_in cut_of audio_after
  good_head l total e =
      let file = file_good b total e in
      rw (none_fires (long_rules b) (omega (arith, tests)), none_fires (file_rules b) (quiet_head b (record { long = file.there; is_magic = file.is_qoa })), file.same)

  pub no_frame : (fixed : Bool) → length (drop 8 b) < 8 → audio_after fixed b ≡ refused 2
  unfolding audio_after body_for
  no_frame fixed l = rw (fires 0 (some_rules (drop 8 b)) 2 (omega (arith, tests)))

-- ---- the frames, of which the first has c channels and rate r

-- more room than any file needs
abbrev pub ample : ℕ
ample = 3 * most_bytes

-- the summary of so many samples
abbrev pub summary : ℕ → ℕ → ℕ → Answer Summary
summary c r n = good (record { channels = c; rate = r; count = n })

module _ (fixed : Bool) (c r : ℕ) where
  -- frames that were walked have few samples
  few_samples : (rest : List ℕ) (v : Walk) → length rest ≤ most_bytes → walk_of (whole_file fixed c r) rest ≡ good v → length (samples_of v.frames) ≤ ample
  few_samples rest v few e =
      let found = walked (whole_file fixed c r) (IsFrame c r) (whole_file_fit fixed c r) rest v e in
      let bytes : length (joined v.frames v.tail) ≡ length rest = ap length found.bytes in
      omega (arith, frames_need v.frames, need_small v.frames v.tail (wholes v.frames found.frames))
    where
      wholes : (fs : List (List ℕ)) → Each (IsFrame c r) fs → Each (λ f. length f ≡ length_of (header_at f 0)) fs
      wholes [] is = tt
      wholes (f ∷ fs) is = (is.0.whole, wholes fs is.1)

  module _ (rest : List ℕ) (few : length rest ≤ most_bytes) (long : 8 ≤ length rest) (head : List ℕ) where
    -- by the first frame's refusal, and what the walk over the others answers
    by_first : (o : Option ℕ) (a : Answer Walk) → first_of (rules_at (like_first fixed c r) rest) ≡ o → walk_of (whole_file fixed c r) (past_frame rest) ≡ a
        → summary_in (unless o a then with_first head (frame_at rest) then λ k. good (audio_of k))
        ≡ (unless o (a then with_frame (frame_at rest)) then (λ w. fits ample (0 + length (samples_of w.frames))) then summary c r)
    unfolding audio_of
    by_first (some n) a eo ea = refl
    by_first none (refused n) eo ea = refl
    by_first none (good w) eo ea =
        let s = starts fixed c r rest (quiet (rules_at (like_first fixed c r) rest) eo) in
        let same = header_at_lem rest s.room in
        let all : List (List ℕ) = frame_at rest ∷ w.frames in
        let walk : walk_of (whole_file fixed c r) rest ≡ good (record { frames = all; tail = w.tail }) = walk_on (whole_file fixed c r) rest long eo ∙ rw ea in
        let small = few_samples rest (record { frames = all; tail = w.tail }) few walk in
        let channels : (header_at (frame_at rest) 0).channels ≡ c = ap (λ (z : FrameHeader). z.channels) same ∙ s.same_channels in
        let rate : (header_at (frame_at rest) 0).rate ≡ r = ap (λ (z : FrameHeader). z.rate) same ∙ s.same_rate in
        rw (zero-add, fits_good ample (length (samples_of all)) small) (ap {B = Answer Summary} good (λ i. record { channels = channels i; rate = rate i; count = length (samples_of all) }))

-- the frames of a file are counted from the first one on
pub surveyed : (fixed : Bool) (b : List ℕ) (h : FrameHeader) → header_at (drop 8 b) 0 ≡ h → length b ≤ most_bytes → 8 ≤ length (drop 8 b)
    → summary_in (audio_after fixed b) ≡ (fit_after (whole_file fixed h.channels h.rate) ample 0 (drop 8 b) then summary h.channels h.rate)
unfolding audio_after body_for fit_after
surveyed fixed b h e few long =
    let rest = drop 8 b in
    let R = whole_file fixed h.channels h.rate in
    let size = length-drop 8 b in
    let refusal = first_of (rules_at (like_first fixed h.channels h.rate) rest) in
    let others = walk_of R (past_frame rest) in
    let same : body fixed rest ≡ body_for fixed h.channels h.rate rest = ap (λ (z : FrameHeader). body_for fixed z.channels z.rate rest) e in
    let found : body fixed rest ≡ unless refusal others = same ∙ rw (none_fires (some_rules rest) (omega (arith, tests))) in
    let walk : walk_of R rest ≡ unless refusal (others then with_frame (frame_at rest)) = walk_step R rest ∙ rw (le-ltb (length rest) 8 long) in
    ap (λ (a : Answer Walk). summary_in (a then with_first (take 8 b) (frame_at rest) then λ k. good (audio_of k))) found
    ∙ by_first fixed h.channels h.rate rest (omega arith) long (take 8 b) refusal others refl refl
    ∙ ap (λ (a : Answer Walk). a then (λ w. fits ample (0 + length (samples_of w.frames))) then summary h.channels h.rate) (sym walk)
