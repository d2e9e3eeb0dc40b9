-- One frame of the program's run: three decisions, which come to what is defined of a frame. Assumes nothing.
use Prim.Native.Nat.{ℕ, suc, ◌+◌, ◌-◌, ◌≤◌, ◌<◌, min}
use mathlib.Core.Path.{◌≡◌, refl, ap, sym, ◌∙◌}
use mathlib.Core.Bool.{Bool, true, false, cond}
use mathlib.Core.List.{List, [], ◌++◌}
use mathlib.Core.Option.{Option, none, some, some-ne-none}
use native.Mathlib.Omega.{arith}
use Rattle.std.specs.Prelude.{Option as Maybe, Some}
use borrow.Author.Tests.{le-ltb, lt-ltb, ltb-false, ltb-true}
use lib.Dec.{ltb}
use lib.ListN.{length, take, drop, length-take, length-drop}
use lib.Seq.{drop-drop, length-take-le, take-add, take-take}
use Rattle.refusal.specs.Rules.{first_of}
use Rattle.refusal.proofs.Rules.{quiet}
use Rattle.word.proofs.Tests.{tests}
use Rattle.format.specs.Format.{frame_length, most_bytes, state_end}
use Rattle.format.specs.Header.{header_at, header_rules}
use Rattle.format.specs.Part.{cut_rules, length_of}
use Rattle.format.specs.Checks.{frame_rules, kind_rules, state_rules}
use Rattle.format.specs.Parts.{sooner}
use Rattle.format.specs.declared.frame.FrameHeader.{FrameHeader}
use Rattle.format.specs.declared.checks.First.{First}
use Rattle.format.specs.declared.checks.Kind.{Kind}
use Rattle.format.specs.declared.checks.Kind.TheVariants.{Any, Like}
use Rattle.format.proofs.Headers.{header_take}
use Rattle.format.proofs.Checking.{in_order}
use Rattle.file.specs.Frame.{frame_samples}
use Rattle.file.specs.Walk.{frame_at, past_frame}
use Rattle.play.specs.Played.{Played, Said, before, most_held, nine_first, nothing, number, only, or_else, too_large, unplayed}
use Rattle.play.specs.Decisions.{between, counted, decided, decided_body, decided_size, decided_state, first_for, kind_for, plays, reads, unless_stopped, within}
use Rattle.play.specs.Running.{carried_out, ran_by, said_after}
use Rattle.play.specs.declared.Run.{Run}
use Rattle.play.specs.declared.Stage.TheVariants.{FrameState, FrameBody}
use Rattle.play.proofs.Deciding.{head_on}

-- ---- a decision, where the buffer holds the first bytes of b and the others are to come

module _ (b : List ℕ) where
  filled_is : (held want : ℕ) → held ≤ want → take held b ++ take (want - held) (drop held b) ≡ take want b
  filled_is held want le = sym (take-add held (want - held) b) ∙ (let sum : held + (want - held) ≡ want = omega arith in ap (λ (n : ℕ). take n b) sum)

  unread_is : (held want : ℕ) → held ≤ want → drop (want - held) (drop held b) ≡ drop want b
  unread_is held want le = drop-drop (want - held) held b ∙ (let sum : held + (want - held) ≡ want = omega arith in ap (λ (n : ℕ). drop n b) sum)

  parts_are : (k : ℕ) → length (take k b) + length (drop k b) ≡ length b
  parts_are k = omega (arith, length-take k b, length-drop k b)

  pub turn : (n : ℕ) (run : Run) → run.held ≤ run.want
      → ran_by (suc n) run (take run.held b) (drop run.held b)
      ≡ carried_out (λ next kept. ran_by n next kept (drop run.want b)) (take run.want b) (run.read + length b) (decided run (take run.want b))
  unfolding ran_by
  turn n run le =
      let sum : run.read + length (take run.want b) + length (drop run.want b) ≡ run.read + length b = omega (arith, parts_are run.want) in
      rw (filled_is run.held run.want le, unread_is run.held run.want le, sum)

-- ---- what is said, by the bytes of the whole input

pub said_nine : (all : ℕ) (s : Said) → s ≡ nothing → all ≤ most_bytes → said_after all s ≡ nine_first (ltb most_bytes all) s
said_nine all s e few = rw (e, le-ltb most_bytes all few)

pub said_number : (all n : ℕ) → said_after all (number n) ≡ nine_first (ltb most_bytes all) (number n)
said_number all n = go (ltb most_bytes all)
  where
    go : (t : Bool) → number (cond t 9 n) ≡ nine_first t (number n)
    go true = refl
    go false = refl

pub said_large : (all : ℕ) → too_large ≡ nine_first (ltb most_bytes all) too_large
said_large all = go (ltb most_bytes all)
  where
    go : (t : Bool) → too_large ≡ nine_first t too_large
    go true = refl
    go false = refl

-- ---- the checks ask no more of the bytes that are left than whether the predictor state and what the call needs are there

module _ (kind : Kind) (h : FrameHeader) where
  kind_same : (x y : ℕ) → ltb x (state_end h.channels) ≡ ltb y (state_end h.channels) → kind_rules kind h x ≡ kind_rules kind h y
  kind_same x y e = go kind
    where
      state : (fixed : Bool) → state_rules fixed h.channels x ≡ state_rules fixed h.channels y
      state true = refl
      state false = rw e

      go : (k : Kind) → kind_rules k h x ≡ kind_rules k h y
      go Any = refl
      go (Like f) = rw (state f.fixed)

  pub checks_same : (need x y : ℕ) → ltb x (state_end h.channels) ≡ ltb y (state_end h.channels) → ltb x need ≡ ltb y need
      → first_of (frame_rules kind h need x) ≡ first_of (frame_rules kind h need y)
  checks_same need x y state whole = in_order kind h need x ∙ rw (kind_same x y state, whole) (sym (in_order kind h need y))

-- ---- a frame

pub state_past_eight : (c : ℕ) → 8 ≤ state_end c
unfolding state_end
state_past_eight c = omega arith

pub length_past_state : (h : FrameHeader) → state_end h.channels ≤ length_of h
unfolding frame_length
length_past_state h = omega arith

-- of the bytes b that are left after so many, those that count are 8 or more
module _ (read : ℕ) (fixed : Bool) (before_it : Maybe First) (b : List ℕ) (few : read ≤ most_bytes) (long : 8 ≤ min (most_bytes - read) (length b)) where
  abbrev run : Run
  run = between read fixed before_it

  abbrev heard : List ℕ
  heard = take (most_bytes - read) b

  abbrev h : FrameHeader
  h = header_at b 0

  abbrev state : ℕ
  state = state_end h.channels

  abbrev all : ℕ
  all = read + length b

  -- how many of the first k bytes count
  counted_is : (k : ℕ) → min (length (take k b)) (most_bytes - read) ≡ min k (length heard)
  counted_is k = omega (arith, length-take k b, length-take (most_bytes - read) b)

  short_same : (k j : ℕ) → j ≤ k → ltb (min (length (take k b)) (most_bytes - read)) j ≡ ltb (length heard) j
  short_same k j le = go (ltb (length heard) j) refl
    where
      go : (t : Bool) → ltb (length heard) j ≡ t → ltb (min (length (take k b)) (most_bytes - read)) j ≡ t
      go true e = lt-ltb (min (length (take k b)) (most_bytes - read)) j (omega (arith, ltb-true (length heard) j e, counted_is k))
      go false e = le-ltb (min (length (take k b)) (most_bytes - read)) j (omega (arith, ltb-false (length heard) j e, counted_is k))

  -- its header is read
  head_decided : decided run (take 8 b) ≡ reads (within run FrameState 8 state)
  unfolding decided
  head_decided =
      let eight : length (take 8 b) ≡ 8 = length-take-le 8 b (omega arith) in
      sym (head_on run (take 8 b) (counted run (length (take 8 b))) refl (omega arith) state (omega arith) (ap (λ (h : FrameHeader). state_end h.channels) (sym (header_take 8 b 0 (omega arith)))))

  at_head : (n : ℕ) → ran_by (suc n) run [] b ≡ ran_by n (within run FrameState 8 state) (take 8 b) (drop 8 b)
  at_head n = turn b n run (omega arith) ∙ rw (head_decided, take-take 8 8 b (omega arith))

  -- its predictor state is read, as far as it goes
  state_decided : decided (within run FrameState 8 state) (take state b)
      ≡ unless_stopped (first_of (frame_rules (kind_for run h) h 8 (length heard))) (decided_size (within run FrameState 8 state) h (counted run (length (take state b))))
  unfolding decided decided_state
  state_decided =
      let past = state_past_eight h.channels in
      rw (header_take state b 0 past, checks_same (kind_for run h) h 8 (counted run (length (take state b))) (length heard) (short_same state state (omega arith)) (short_same state 8 past))

  -- the kind of frame that the file may have, and the frame's length
  abbrev kind : Kind
  kind = kind_for run h

  abbrev whole : ℕ
  whole = length_of h

  -- its slices are read: where the checks before passed, only a cut frame is left to refuse
  body_decided : first_of (frame_rules kind h 8 (length heard)) ≡ none
      → decided (within run FrameBody state whole) (take whole b)
      ≡ unless_stopped (first_of (cut_rules whole (length heard))) (plays whole (between (read + whole) fixed (Some (first_for run h))))
  unfolding decided decided_body
  body_decided passed =
      let past = state_past_eight h.channels in
      let within-whole = length_past_state h in
      let first = sooner_none (first_of (header_rules h)) _ (sym (in_order kind h 8 (length heard)) ∙ passed) in
      let then = sooner_none (first_of (kind_rules kind h (length heard))) (first_of (cut_rules 8 (length heard))) first.1 in
      rw (
        header_take whole b 0 (omega arith),
        checks_same kind h whole (counted run (length (take whole b))) (length heard) (short_same whole state within-whole) (short_same whole whole (omega arith)),
        in_order kind h whole (length heard),
        first.0,
        then.0,
      )
    where
      sooner_none : (x y : Option ℕ) → sooner x y ≡ none → (x ≡ none) × (y ≡ none)
      sooner_none none y e = (refl, e)
      sooner_none (some n) y e = absurd (some-ne-none n e)

  -- what becomes of the frame
  abbrev pub outcome : ℕ → Option Said → Played
  outcome n (some s) = only (nine_first (ltb most_bytes all) s)
  outcome n none = before (frame_samples (frame_at heard)) (ran_by n (between (read + whole) fixed (Some (first_for run h))) [] (past_frame b))

  frame_is : whole ≤ length heard → frame_at heard ≡ take whole b
  frame_is le =
      let room : whole ≤ most_bytes - read = omega (arith, length-take (most_bytes - read) b) in
      ap (λ (h : FrameHeader). take (length_of h) heard) (header_take (most_bytes - read) b 0 (omega arith)) ∙ take-take whole (most_bytes - read) b room

  module _ (n : ℕ) where
    -- whole, or cut
    at_body : (o : Option ℕ) → first_of (cut_rules whole (length heard)) ≡ o
        → carried_out (λ next kept. ran_by n next kept (drop whole b)) (take whole b) all (unless_stopped o (plays whole (between (read + whole) fixed (Some (first_for run h))))) ≡ outcome n (or_else o none)
    at_body (some x) e = ap only (said_number all x)
    at_body none e =
        let there : whole ≤ length heard = omega (arith, tests, quiet (cut_rules whole (length heard)) e) in
        rw (frame_is there, take-take whole whole b (omega arith))

    -- its predictor state cut, or there
    at_size : first_of (frame_rules kind h 8 (length heard)) ≡ none → (t : Bool) → ltb (counted run (length (take state b))) state ≡ t
        → carried_out (λ next kept. ran_by (suc n) next kept (drop state b)) (take state b) all (unless_stopped (first_of (cut_rules state (counted run (length (take state b))))) (reads (within run FrameBody state whole)))
        ≡ outcome n (or_else (first_of (cut_rules whole (length heard))) none)
    unfolding first_of
    at_size passed true e =
        let cut : length heard < state = ltb-true (length heard) state (sym (short_same state state (omega arith)) ∙ e) in
        let cut-whole = lt-ltb (length heard) whole (omega (arith, length_past_state h)) in
        rw (e, cut-whole) (ap only (said_number all 5))
    at_size passed false e =
        rw (e, take-take state state b (omega arith))
        (turn b n (within run FrameBody state whole) (length_past_state h)
        ∙ rw (body_decided passed) (at_body (first_of (cut_rules whole (length heard))) refl))

    -- too large, or not
    at_verdict : first_of (frame_rules kind h 8 (length heard)) ≡ none → (t : Bool) → ltb most_held whole ≡ t
        → carried_out (λ next kept. ran_by (suc n) next kept (drop state b)) (take state b) all (decided_size (within run FrameState 8 state) h (counted run (length (take state b))))
        ≡ outcome n (cond t (some too_large) (or_else (first_of (cut_rules whole (length heard))) none))
    unfolding decided_size
    at_verdict passed true e = rw e (ap only (said_large all))
    at_verdict passed false e = rw e (at_size passed (ltb (counted run (length (take state b))) state) refl)

    at_checks : (o : Option ℕ) → first_of (frame_rules kind h 8 (length heard)) ≡ o
        → carried_out (λ next kept. ran_by (suc n) next kept (drop state b)) (take state b) all (unless_stopped o (decided_size (within run FrameState 8 state) h (counted run (length (take state b)))))
        ≡ outcome n (or_else o (cond (ltb most_held whole) (some too_large) (or_else (first_of (cut_rules whole (length heard))) none)))
    at_checks (some x) e = ap only (said_number all x)
    at_checks none e = at_verdict e (ltb most_held whole) refl

    unplayed_is : unplayed kind heard ≡ or_else (first_of (frame_rules kind h 8 (length heard))) (cond (ltb most_held whole) (some too_large) (or_else (first_of (cut_rules whole (length heard))) none))
    unfolding unplayed
    unplayed_is = rw (header_take (most_bytes - read) b 0 (omega arith))

    pub frame_ran : ran_by (suc (suc (suc n))) run [] b ≡ outcome n (unplayed kind heard)
    frame_ran =
        at_head (suc (suc n))
        ∙ turn b (suc n) (within run FrameState 8 state) (state_past_eight h.channels)
        ∙ rw (state_decided, unplayed_is) (at_checks (first_of (frame_rules kind h 8 (length heard))) refl)
