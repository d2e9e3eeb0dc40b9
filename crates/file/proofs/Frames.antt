-- One frame at the start of a list: the reader's rules are quiet exactly where the grammar has a frame. Assumes nothing.
use Prim.Native.Nat.{ℕ, ◌≤◌, ◌<◌}
use mathlib.Core.Path.{◌≡◌}
use mathlib.Core.Bool.{Bool, true}
use mathlib.Core.List.{List, ◌++◌}
use native.Mathlib.Omega.{arith}
use lib.ListN.{length, length-append}
use lib.Seq.{take_at, drop_at, length-take-le}
use Rattle.refusal.proofs.Rules.{Quiet}
use Rattle.word.proofs.Tests.{tests, nnot}
use Rattle.format.specs.Format.{frame_length, state_end}
use Rattle.format.specs.Header.{header_at}
use Rattle.format.specs.Part.{length_of}
use Rattle.format.specs.Grammar.{IsFrame, Passes, tail_ok}
use Rattle.format.specs.declared.frame.FrameHeader.{FrameHeader}
use Rattle.format.specs.declared.checks.First.{First}
use Rattle.format.specs.declared.checks.Kind.TheVariants.{Any, Like}
use Rattle.format.proofs.Headers.{frame_long, header_append, header_take}
use Rattle.format.proofs.Checking.{Same, checks, like_same, quiet_checks, same_like}
use Rattle.format.proofs.Tails.{tail_short}
use Rattle.file.specs.Walk.{WalkRules, past_frame, frame_at, rules_at}
use Rattle.file.specs.Whole.{like_first, whole_file}
use Rattle.file.specs.Streaming.{free_frames}
use Rattle.file.specs.Parts.{IsFree}

pub frame_eight : (h : FrameHeader) → 8 ≤ length_of h
unfolding frame_length state_end
frame_eight h = omega arith

-- b starts with a whole frame
pub record Starts (c r : ℕ) (b : List ℕ) : Type 0 where
  pub passes : Passes (header_at b 0)
  pub same_channels : (header_at b 0).channels ≡ c
  pub same_rate : (header_at b 0).rate ≡ r
  pub room : length_of (header_at b 0) ≤ length b

-- in either mode, the rules are quiet exactly where it does
module _ (fixed : Bool) (c r : ℕ) (b : List ℕ) where
  abbrev first : First
  first = record { fixed = fixed; channels = c; rate = r }

  abbrev h : FrameHeader
  h = header_at b 0

  pub starts : Quiet (rules_at (like_first fixed c r) b) → Starts c r b
  starts q =
      let k = checks (Like first) h (length_of h) (length b) q in
      let same = like_same first h (length b) k.like in
      record { passes = k.header; same_channels = same.same_channels; same_rate = same.same_rate; room = k.there }

  pub quiet_frame : Starts c r b → Quiet (rules_at (like_first fixed c r) b)
  quiet_frame f =
      let same : Same first h = record { same_channels = f.same_channels; same_rate = f.same_rate } in
      let like = same_like first h (length b) same (omega (arith, f.room, frame_long h.channels h.samples)) in
      quiet_checks (Like first) h (length_of h) (length b) (record { header = f.passes; like = like; there = f.room })

-- a whole frame before other bytes is found there
module _ (f t : List ℕ) (whole : length f ≡ length_of (header_at f 0)) where
  pub header_same : header_at (f ++ t) 0 ≡ header_at f 0
  header_same = header_append f t 0 (omega (arith, frame_eight (header_at f 0)))

  pub frame_at_lem : frame_at (f ++ t) ≡ f
  frame_at_lem = rw header_same (take_at f t (length_of (header_at f 0)) whole)

  pub after_frame_lem : past_frame (f ++ t) ≡ t
  after_frame_lem = rw header_same (drop_at f t (length_of (header_at f 0)) whole)

-- and a list with room for a frame starts with one
module _ (b : List ℕ) (room : length_of (header_at b 0) ≤ length b) where
  pub header_at_lem : header_at (frame_at b) 0 ≡ header_at b 0
  header_at_lem = header_take (length_of (header_at b 0)) b 0 (omega (arith, frame_eight (header_at b 0)))

  pub whole_at : length (frame_at b) ≡ length_of (header_at (frame_at b) 0)
  whole_at = rw header_at_lem (length-take-le (length_of (header_at b 0)) b room)

pub is_frame : (c r : ℕ) (b : List ℕ) → Starts c r b → IsFrame c r (frame_at b)
is_frame c r b s =
    let e = header_at_lem b s.room in
    record { passes = rw e s.passes; same_channels = rw e s.same_channels; same_rate = rw e s.same_rate; whole = whole_at b s.room }

pub frame_starts : (c r : ℕ) (f t : List ℕ) → IsFrame c r f → Starts c r (f ++ t)
frame_starts c r f t i =
    let e = header_same f t i.whole in
    record {
      passes = rw e i.passes;
      same_channels = rw e i.same_channels;
      same_rate = rw e i.same_rate;
      room = rw e (omega (arith, i.whole, length-append f t));
    }

-- a reader whose rules are quiet exactly at the frames of a grammar, and that ends before a frame header
pub record Fit (R : WalkRules) (Is : List ℕ → Type 0) : Type 0 where
  pub sound : (b : List ℕ) → Quiet (R.frame b) → Is (frame_at b)
  pub quiet : (f t : List ℕ) → Is f → Quiet (R.frame (f ++ t))
  pub whole : (f : List ℕ) → Is f → length f ≡ length_of (header_at f 0)
  pub short : (n : ℕ) → Quiet (R.tail n) → n < 8

pub whole_file_fit : (fixed : Bool) (c r : ℕ) → Fit (whole_file fixed c r) (IsFrame c r)
whole_file_fit fixed c r =
    record {
      sound = λ b q. is_frame c r b (starts fixed c r b q);
      quiet = λ f t i. quiet_frame fixed c r (f ++ t) (frame_starts c r f t i);
      whole = λ f i. i.whole;
      short = λ n q. tail_short n (nnot (tail_ok n true) q.0);
    }

free_sound : (b : List ℕ) → Quiet (rules_at Any b) → IsFree (frame_at b)
free_sound b q =
    let k = checks Any (header_at b 0) (length_of (header_at b 0)) (length b) q in
    record { passes = rw (header_at_lem b k.there) k.header; whole = whole_at b k.there }

free_quiet : (f t : List ℕ) → IsFree f → Quiet (rules_at Any (f ++ t))
free_quiet f t i =
    let size = length-append f t in
    rw (header_same f t i.whole)
    (quiet_checks Any (header_at f 0) (length_of (header_at f 0)) (length (f ++ t)) (record { header = i.passes; like = tt; there = omega (arith, i.whole) }))

pub free_fit : Fit free_frames IsFree
free_fit = record { sound = free_sound; quiet = free_quiet; whole = λ f i. i.whole; short = λ n q. omega (arith, tests) }
