-- The number of a call's refusal is from 1 to 13, so that a code tells what the call told: a refusal is never taken for a count. Assumes nothing.
use Prim.Native.Nat.{ℕ, zero, suc}
use mathlib.Core.Path.{◌≡◌}
use mathlib.Core.Bool.{Bool, true, false, ◌&&◌, cond}
use mathlib.Core.List.{List, [], ◌∷◌, ◌++◌}
use lib.Dec.{T, lit<, ltb}
use lib.Ieee.Fits.{and_l, and_r}
use lib.ListN.{drop, length, take}
use Rattle.refusal.specs.Rules.{Answer, Rule, ◌gives◌, after, first_of, good, refused, ◌then◌}
use Rattle.format.specs.FileHeader.{file_rules, is_fixed, total_of}
use Rattle.format.specs.Format.{state_end}
use Rattle.format.specs.Header.{good_header, header_at, header_rules, left_at}
use Rattle.format.specs.Part.{cut_rules, length_of, part_length}
use Rattle.format.specs.Checks.{frame_rules, kind_rules, same_rules, state_rules}
use Rattle.format.specs.declared.frame.FrameHeader.{FrameHeader}
use Rattle.format.specs.declared.checks.Kind.{Kind}
use Rattle.format.specs.declared.checks.Kind.TheVariants.{Any, Like}
use Rattle.state.specs.Opening.{first_rules, open_rules}
use Rattle.file.specs.Whole.{audio_in, body, body_for, cut_of, decode, like_first, whole_file, with_first}
use Rattle.file.specs.Streaming.{free_frames, samples_in, streamed}
use Rattle.file.specs.Walk.{WalkRules, Walk, past_frame, ends, frame_at, rules_at, step, walk_by, walk_of}
use Rattle.oneshot.specs.OneShot.{need_rules}
use Rattle.codes.specs.Codes.{coded}
use Rattle.qoa.specs.Coded.{opened_facts}
use Rattle.codes.proofs.Apart.{Low, Named, coded_one}

-- ---- rules

-- of literals
pub low : {n : ℕ} → T (ltb 0 n && ltb n 14) → Low n
low {n} t = (lit< (and_l (ltb 0 n) (ltb n 14) t), lit< (and_r (ltb 0 n) (ltb n 14) t))

-- each rule gives such a number
abbrev pub Numbers : List Rule → Type 0
Numbers [] = Unit {0}
Numbers ((test gives n) ∷ rules) = Low n × Numbers rules

both : (a b : List Rule) → Numbers a → Numbers b → Numbers (a ++ b)
both [] b p q = q
both ((test gives n) ∷ a) b p q = (p.0, both a b p.1 q)

module _ {A : Type 0} where
  named_after : (l : List Rule) (a : Answer A) → Numbers l → Named a → Named (after l a)
  unfolding first_of
  named_after [] a p q = q
  named_after ((true gives n) ∷ l) a p q = p.0
  named_after ((false gives n) ∷ l) a p q = named_after l a p.1 q

module _ {A B : Type 0} where
  named_then : (a : Answer A) (f : A → Answer B) → Named a → ((x : A) → Named (f x)) → Named (a then f)
  named_then (refused n) f p q = p
  named_then (good x) f p q = q x

header_numbers : (h : FrameHeader) → Numbers (header_rules h)
unfolding header_rules
header_numbers h = (low tt, (low tt, (low tt, (low tt, (low tt, (low tt, tt))))))

cut_numbers : (whole left : ℕ) → Numbers (cut_rules whole left)
cut_numbers whole left = (low tt, tt)

file_numbers : (bs : List ℕ) → Numbers (file_rules bs)
unfolding file_rules
file_numbers bs = (low tt, (low tt, (low tt, tt)))

state_numbers : (fixed : Bool) (c left : ℕ) → Numbers (state_rules fixed c left)
state_numbers true c left = tt
state_numbers false c left = cut_numbers (state_end c) left

kind_numbers : (kind : Kind) (h : FrameHeader) (left : ℕ) → Numbers (kind_rules kind h left)
kind_numbers Any h left = tt
kind_numbers (Like f) h left = both (state_rules f.fixed h.channels left) (same_rules f.channels f.rate h) (state_numbers f.fixed h.channels left) (low tt, (low tt, tt))

frame_numbers : (kind : Kind) (h : FrameHeader) (need left : ℕ) → Numbers (frame_rules kind h need left)
unfolding frame_rules
frame_numbers kind h need left =
    both (header_rules h) (kind_rules kind h left ++ cut_rules need left) (header_numbers h)
    (both (kind_rules kind h left) (cut_rules need left) (kind_numbers kind h left) (cut_numbers need left))

whole_numbers : (kind : Kind) (b : List ℕ) → Numbers (rules_at kind b)
whole_numbers kind b = let h = header_at b 0 in frame_numbers kind h (length_of h) (length b)

-- ---- a walk

module _ (R : WalkRules) (frames : (b : List ℕ) → Numbers (R.frame b)) (tails : (n : ℕ) → Numbers (R.tail n)) where
  named_ends : (b : List ℕ) → Named (ends R b)
  named_ends b = named_after (R.tail (length b)) _ (tails (length b)) tt

  by_size : (small : Bool) (b : List ℕ) (rest : Answer Walk) → Named rest → Named (step R small b (first_of (R.frame b)) rest)
  by_size true b rest p = named_ends b
  by_size false b rest p = named_after (R.frame b) _ (frames b) (named_then rest _ p (λ w. tt))

  named_walk_by : (fuel : ℕ) (b : List ℕ) → Named (walk_by R fuel b)
  unfolding walk_by
  named_walk_by zero b = named_ends b
  named_walk_by (suc fuel) b = by_size (ltb (length b) 8) b (walk_by R fuel (past_frame b)) (named_walk_by fuel (past_frame b))

  named_walk : (b : List ℕ) → Named (walk_of R b)
  unfolding walk_of
  named_walk b = named_walk_by (length b) b

-- ---- the calls

named_body : (fixed : Bool) (c r : ℕ) (b : List ℕ) → Named (body_for fixed c r b)
unfolding body_for
named_body fixed c r b =
    named_after _ _ (low tt, tt)
    (named_after _ _ (whole_numbers (like_first fixed c r) b) (named_walk (whole_file fixed c r) (whole_numbers (like_first fixed c r)) (λ n. (low tt, tt)) (past_frame b)))

named_cut : (b : List ℕ) → Named (cut_of b)
unfolding cut_of
named_cut b =
    let fixed = is_fixed (total_of b) in
    let first = header_at (drop 8 b) 0 in
    named_after (file_rules b) _ (file_numbers b)
    (named_then (body fixed (drop 8 b)) (with_first (take 8 b) (frame_at (drop 8 b))) (named_body fixed first.channels first.rate (drop 8 b)) (λ w. tt))

pub named_audio : (b : List ℕ) → Named (audio_in b)
unfolding audio_in
named_audio b = named_after _ _ (low tt, tt) (named_then (cut_of b) _ (named_cut b) (λ k. tt))

pub named_decode : (room : ℕ) (b : List ℕ) → Named (decode room b)
unfolding decode
named_decode room b = named_then (audio_in b) _ (named_audio b) (λ a. named_after _ (good a) (low tt, tt) tt)

pub named_streamed : (room : ℕ) (b : List ℕ) → Named (streamed room b)
unfolding streamed samples_in
named_streamed room b =
    named_then (samples_in b) _
    (named_then (walk_of free_frames b) _ (named_walk free_frames (whole_numbers Any) (λ n. (low tt, tt)) b) (λ w. tt))
    (λ xs. named_after _ (good xs) (low tt, tt) tt)

pub named_part : (bs : List ℕ) (at : ℕ) → Named (part_length bs at)
unfolding part_length good_header
named_part bs at =
    named_then (good_header bs at) _
    (named_after _ _ (low tt, tt) (named_after _ (good (header_at bs at)) (header_numbers (header_at bs at)) tt))
    (λ h. named_after _ (good (length_of h)) (cut_numbers (length_of h) (left_at bs at)) tt)

first_numbers : (bs : List ℕ) → Numbers (first_rules bs)
first_numbers bs = (low tt, frame_numbers Any (header_at bs 8) (state_end (header_at bs 8).channels) (left_at bs 8))

by_mode : (fixed : Bool) (l : List Rule) → Numbers l → Numbers (cond fixed l [])
by_mode true l p = p
by_mode false l p = tt

pub open_numbers : (bs : List ℕ) → Numbers (open_rules bs)
unfolding open_rules
open_numbers bs = both (file_rules bs) _ (file_numbers bs) (by_mode (is_fixed (total_of bs)) (first_rules bs) (first_numbers bs))

pub named_facts : (bs : List ℕ) → Named (opened_facts bs)
unfolding opened_facts
named_facts bs = named_after (open_rules bs) _ (open_numbers bs) tt

pub named_need : (c total n : ℕ) → Named (after (need_rules c total) (good n))
unfolding need_rules
named_need c total n = named_after (need_rules c total) (good n) (low tt, (low tt, (low tt, tt))) tt

-- ---- what is told by a code

module _ {A : Type 0} (f : A → ℕ) where
  -- a number of what a call tells
  abbrev counted : Answer A → Answer ℕ
  counted a = a then λ x. good (f x)

  pub told_by_code : (a b : Answer A) → Named a → Named b → coded (counted a) ≡ coded (counted b) → counted a ≡ counted b
  told_by_code a b p q = coded_one (counted a) (counted b) (named_then a (λ x. good (f x)) p (λ x. tt)) (named_then b (λ x. good (f x)) q (λ x. tt))
