-- Each way out of a decision is the one that is defined. Assumes nothing.
use Prim.Native.Nat.{ℕ, ◌+◌, ◌≤◌, ◌<◌}
use mathlib.Core.Path.{◌≡◌, ap}
use mathlib.Core.Bool.{false}
use mathlib.Core.List.{List}
use mathlib.Core.Option.{none, some}
use Rattle.std.specs.Prelude.{Some, None, Result, Ok, Err}
use Rattle.std.specs.Result.{IsErrAnd}
use Rattle.refusal.specs.Refusals.{number_of}
use Rattle.refusal.specs.declared.Refusal.{Refusal}
use Rattle.play.specs.declared.Next.{Next}
use Rattle.play.specs.declared.Stop.{Stop}
use Rattle.play.specs.declared.Stop.TheVariants.{Refused}
use borrow.Author.Tests.{le-ltb, lt-ltb}
use lib.Dec.{ltb}
use lib.ListN.{length}
use Rattle.refusal.specs.Rules.{first_of, good, refused}
use Rattle.refusal.proofs.Rules.{after_good, after_refused, none_fires}
use Rattle.format.specs.Format.{state_end}
use Rattle.format.specs.FileHeader.{file_rules, is_fixed, total_of}
use Rattle.format.specs.Header.{header_at}
use Rattle.format.specs.Part.{length_of}
use Rattle.format.specs.Checks.{frame_rules}
use Rattle.format.specs.Parts.{file_header}
use Rattle.format.specs.declared.frame.FrameHeader.{FrameHeader}
use Rattle.format.specs.declared.checks.First.{First}
use Rattle.format.specs.declared.checks.Kind.TheVariants.{Like}
use Rattle.play.specs.Played.{most_held, number, too_large}
use Rattle.play.specs.Decisions.{between, counted, decided_body, decided_end, decided_head, decided_size, decided_start, decided_state, first_for, plays, reads, stops, told_decision, told_stop, within}
use Rattle.play.specs.declared.Run.{Run}
use Rattle.play.specs.declared.Stage.TheVariants.{FrameState, FrameBody}

-- ---- what the exit of a `?` hands on

pub exit_stops : (d : Result Next Stop) (r : Refusal) → IsErrAnd d (λ s. s ≡ Refused r) → told_decision d ≡ stops (number (number_of r))
exit_stops (Ok x) r e = absurd e
exit_stops (Err s) r e = ap (λ (x : Stop). stops (told_stop x)) e

-- ---- the file header

module _ (f : List ℕ) where
  pub start_refused : (n : ℕ) → file_header f ≡ refused n → stops (number n) ≡ decided_start f
  unfolding file_header decided_start
  start_refused n e = rw (after_refused (file_rules f) (total_of f) n e)

  pub start_on : (total : ℕ) → file_header f ≡ good total → reads (between 8 (is_fixed total) None) ≡ decided_start f
  unfolding file_header decided_start
  start_on total e =
      let found = after_good (file_rules f) (good (total_of f)) total e in
      let same : total_of f ≡ total = cc in
      rw (none_fires (file_rules f) found.0, same)

-- ---- a frame's header, or the end

module _ (run : Run) (f : List ℕ) (left : ℕ) (left_is : left ≡ counted run (length f)) where
  pub head_long : left < length f → stops (number 9) ≡ decided_head run f
  unfolding decided_head
  head_long h = let test = lt-ltb (counted run (length f)) (length f) (rw (← left_is) h) in rw test

  module _ (all : length f ≤ left) where
    within_all : ltb (counted run (length f)) (length f) ≡ false
    within_all = le-ltb (counted run (length f)) (length f) (rw (← left_is) all)

    pub head_end : length f < 8 → decided_end run (length f) ≡ decided_head run f
    unfolding decided_head
    head_end h = rw (within_all, lt-ltb (length f) 8 h)

    pub head_on : (end : ℕ) → 8 ≤ length f → end ≡ state_end (header_at f 0).channels → reads (within run FrameState 8 end) ≡ decided_head run f
    unfolding decided_head
    head_on end h end_is = rw (within_all, le-ltb (length f) 8 h, end_is)

-- ---- a frame's size

module _ (run : Run) (h : FrameHeader) (left size : ℕ) (size_is : size ≡ length_of h) where
  pub size_large : most_held < size → stops too_large ≡ decided_size run h left
  unfolding decided_size
  size_large large = let test = lt-ltb most_held (length_of h) (rw (← size_is) large) in rw test

  module _ (end : ℕ) (end_is : end ≡ state_end h.channels) (small : size ≤ most_held) where
    fits : ltb most_held (length_of h) ≡ false
    fits = le-ltb most_held (length_of h) (rw (← size_is) small)

    pub size_cut : left < end → stops (number 5) ≡ decided_size run h left
    unfolding decided_size first_of
    size_cut cut = let test = lt-ltb left (state_end h.channels) (rw (← end_is) cut) in rw (fits, test)

    pub size_on : end ≤ left → reads (within run FrameBody end size) ≡ decided_size run h left
    unfolding decided_size first_of
    size_on there = let test = le-ltb left (state_end h.channels) (rw (← end_is) there) in rw (fits, test, end_is, size_is)

-- ---- a frame's checks, by the header that was read, the kind and how many bytes count

module _ (run : Run) (f : List ℕ) (h : FrameHeader) (first : First) (left : ℕ) (h-is : h ≡ header_at f 0) (first-is : first ≡ first_for run h) (left_is : left ≡ counted run (length f)) where
  pub state_refused : (n : ℕ) → first_of (frame_rules (Like first) h 8 left) ≡ some n → stops (number n) ≡ decided_state run f
  unfolding decided_state
  state_refused n e = rw (← h-is, ← first-is, ← left_is, e)

  pub state_on : first_of (frame_rules (Like first) h 8 left) ≡ none → decided_size run h left ≡ decided_state run f
  unfolding decided_state
  state_on e = rw (← h-is, ← first-is, ← left_is, e)

  module _ (size : ℕ) (size_is : size ≡ length_of h) where
    pub body_refused : (n : ℕ) → first_of (frame_rules (Like first) h size left) ≡ some n → stops (number n) ≡ decided_body run f
    unfolding decided_body
    body_refused n e = rw (← h-is, ← first-is, ← left_is, ← size_is, e)

    pub body_on : first_of (frame_rules (Like first) h size left) ≡ none
        → plays size (between (run.read + size) run.fixed (Some first)) ≡ decided_body run f
    unfolding decided_body
    body_on e = rw (← h-is, ← first-is, ← left_is, ← size_is, e)
