-- The decisions, taken in the program's order, come to what the program is to do. Assumes nothing.
use Prim.Native.Nat.{ℕ, zero, suc, ◌+◌, ◌-◌, ◌≤◌, ◌<◌, min}
use mathlib.Core.Path.{◌≡◌, refl, ap, ap₂, sym, ◌∙◌}
use mathlib.Core.Bool.{Bool, false}
use mathlib.Core.List.{List, [], ◌∷◌}
use mathlib.Core.Logic.{dite}
use mathlib.Core.Option.{Option, none, some}
use native.Mathlib.Decide.{dec_lt}
use native.Mathlib.Nat.{zero-add}
use native.Mathlib.Omega.{arith}
use Rattle.std.specs.Prelude.{Option as Maybe, Some, None}
use borrow.Author.Tests.{le-ltb, lt-ltb}
use lib.Dec.{ltb}
use lib.ListN.{length, take, drop, length-take, length-drop}
use lib.Seq.{take_all, take-nil}
use Rattle.format.specs.Format.{most_bytes}
use Rattle.refusal.specs.Rules.{first_of}
use Rattle.refusal.proofs.Rules.{quiet}
use Rattle.word.proofs.BytesLaws.{be_take}
use Rattle.format.specs.FileHeader.{file_rules, is_fixed, total_of}
use Rattle.format.specs.Header.{header_at}
use Rattle.format.specs.Part.{length_of}
use Rattle.format.specs.declared.frame.FrameHeader.{FrameHeader}
use Rattle.format.specs.declared.checks.First.{First}
use Rattle.format.specs.declared.checks.Kind.{Kind}
use Rattle.format.specs.declared.checks.Kind.TheVariants.{Like}
use Rattle.format.proofs.Headers.{header_take}
use Rattle.file.specs.Frame.{frame_samples}
use Rattle.file.specs.Walk.{frame_at, past_frame}
use Rattle.file.specs.Whole.{some_rules, tail_rules}
use Rattle.file.proofs.Frames.{frame_eight, starts}
use Rattle.file.proofs.Accepted.{head_good}
use Rattle.play.specs.Played.{Played, Said, before, body_played, file_played, frames_played, nine_first, nothing, number, only, or_say, played, step, unless_said, unplayed}
use Rattle.play.specs.Decisions.{begun, between, counted, decided, decided_end, decided_head, decided_start, first_for, kind_for, reads, stops, unless_stopped}
use Rattle.play.specs.Running.{carried_out, ran, ran_by, said_after}
use Rattle.play.specs.declared.Run.{Run}
use Rattle.play.proofs.Deciding.{head_end, head_long}
use Rattle.play.proofs.Stepping.{frame_ran, outcome, said_number, turn}
use Rattle.play.proofs.Frames.{why}
use Rattle.play.proofs.Walking.{play_step}

-- what is played, where the whole input has so many bytes
abbrev pub capped : ℕ → Played → Played
capped all p = record { samples = p.samples; said = nine_first (ltb most_bytes all) p.said }

pub drop_take : {A : Type 0} (k m : ℕ) (l : List A) → drop k (take m l) ≡ take (m - k) (drop k l)
drop_take zero m l = let same : m - 0 ≡ m = omega arith in rw same
drop_take (suc k) zero l = sym (take_none (zero - suc k) (drop (suc k) l) (omega arith))
  where
    take_none : {A : Type 0} (n : ℕ) (l : List A) → n ≡ 0 → take n l ≡ []
    take_none n l e = rw e
drop_take (suc k) (suc m) [] = sym (take-nil (suc m - suc k))
drop_take (suc k) (suc m) (x ∷ l) = let less : suc m - suc k ≡ m - k = omega arith in rw less (drop_take k m l)

-- ---- from between two frames on, with the bytes b still to come

module _ (read : ℕ) (fixed : Bool) (before_it : Maybe First) (b : List ℕ) (few : read ≤ most_bytes) where
  abbrev run : Run
  run = between read fixed before_it

  -- the bytes that count
  abbrev heard : List ℕ
  heard = take (most_bytes - read) b

  abbrev all : ℕ
  all = read + length b

  -- the end: fewer than 8 of the bytes count
  module _ (short : min (most_bytes - read) (length b) < 8) where
    module _ (rule : ℕ → Option ℕ) (ends : (left : ℕ) → decided_end run left ≡ stops (or_say (rule left) nothing)) where
      -- there are more bytes than count
      over : most_bytes - read < length b → (o : Option ℕ) → only (said_after all (number 9)) ≡ capped all (only (or_say o nothing))
      over more none = let long = lt-ltb most_bytes all (omega arith) in rw long
      over more (some n) = let long = lt-ltb most_bytes all (omega arith) in rw long

      -- all of them count
      under : length b ≤ most_bytes - read → (o : Option ℕ) → only (said_after all (or_say o nothing)) ≡ capped all (only (or_say o nothing))
      under all-count none = let few_bytes = le-ltb most_bytes all (omega arith) in rw few_bytes
      under all-count (some n) = let few_bytes = le-ltb most_bytes all (omega arith) in rw few_bytes

      pub end_ran : (n : ℕ) → ran_by (suc n) run [] b ≡ capped all (only (or_say (rule (length heard)) nothing))
      unfolding decided
      end_ran n =
          let first = length-take 8 b in
          dite (dec_lt (most_bytes - read) (length b))
          (λ more.
          let nine : stops (number 9) ≡ decided_head run (take 8 b) = head_long run (take 8 b) (counted run (length (take 8 b))) refl (omega arith) in
          turn b n run (omega arith) ∙ rw (← nine) (over more (rule (length heard))))
          (λ no_more.
          let all-eight : take 8 b ≡ b = take_all 8 b (omega arith) in
          let all_heard : take (most_bytes - read) b ≡ b = take_all (most_bytes - read) b (omega arith) in
          let end : decided_end run (length b) ≡ decided_head run b = head_end run b (counted run (length b)) refl (omega arith) (omega arith) in
          turn b n run (omega arith) ∙ rw (all-eight, ← end, ends (length b), all_heard) (under (omega arith) (rule (length b))))

  -- a frame, and what comes after it
  module _ (long : 8 ≤ min (most_bytes - read) (length b)) where
    abbrev h : FrameHeader
    h = header_at b 0

    abbrev whole : ℕ
    whole = length_of h

    -- the same of the bytes after the frame
    abbrev pub Rest : ℕ → Type 0
    Rest n = read + whole ≤ most_bytes → length (past_frame b) < n
        → ran_by n (between (read + whole) fixed (Some (first_for run h))) [] (past_frame b)
        ≡ capped (read + whole + length (past_frame b)) (frames_played (kind_for run h) (take (most_bytes - (read + whole)) (past_frame b)))

    module _ (n : ℕ) (enough : length b < suc (suc (suc n))) (rest : Rest n) where
      abbrev kind : Kind
      kind = kind_for run h

      abbrev after : List ℕ
      after = take (most_bytes - (read + whole)) (past_frame b)

      header_is : header_at heard 0 ≡ h
      header_is = header_take (most_bytes - read) b 0 (omega arith)

      past_is : past_frame heard ≡ after
      past_is =
          let less : most_bytes - read - whole ≡ most_bytes - (read + whole) = omega arith in
          rw header_is (drop_take whole (most_bytes - read) b ∙ ap (λ (k : ℕ). take k (past_frame b)) less)

      goes_on : unplayed kind heard ≡ none → ran_by n (between (read + whole) fixed (Some (first_for run h))) [] (past_frame b) ≡ capped (read + length b) (frames_played kind (past_frame heard))
      goes_on e =
          let counts = length-take (most_bytes - read) b in
          let held = rw e at (why kind heard (omega arith)) in
          let first = first_for run h in
          let found = starts first.fixed first.channels first.rate heard held.0 in
          let there : whole ≤ length heard = rw header_is at found.room in
          let left = length-drop whole b in
          let all : read + whole + length (past_frame b) ≡ read + length b = omega arith in
          let eight = frame_eight h in
          rest (omega arith) (omega arith) ∙ rw (all, past_is)

      pub framed : ran_by (suc (suc (suc n))) run [] b ≡ capped (read + length b) (frames_played kind heard)
      framed =
          let long-heard = le-ltb (length heard) 8 (omega (arith, length-take (most_bytes - read) b)) in
          frame_ran read fixed before_it b few long n ∙ rw (play_step kind heard, long-heard) (go (unplayed kind heard) refl)
        where
          go : (o : Option Said) → unplayed kind heard ≡ o → outcome read fixed before_it b few long n o ≡ capped (read + length b) (step false o heard (frames_played kind (past_frame heard)))
          go (some s) e = refl
          go none e = ap (before (frame_samples (frame_at heard))) (goes_on e)

-- ---- all frames after the first

-- fewer than 8 bytes that count are the tail
tail_ran : (n read : ℕ) (fixed : Bool) (first : First) (b : List ℕ) → read ≤ most_bytes → min (most_bytes - read) (length b) < 8
    → ran_by (suc n) (between read fixed (Some first)) [] b ≡ capped (read + length b) (frames_played (Like first) (take (most_bytes - read) b))
tail_ran n read fixed first b few short =
    let heard = take (most_bytes - read) b in
    let short-heard = lt-ltb (length heard) 8 (omega (arith, length-take (most_bytes - read) b)) in
    end_ran read fixed (Some first) b few short (λ left. first_of (tail_rules left)) (λ left. refl) n ∙ rw (play_step (Like first) heard, short-heard)

frames_ran : (n read : ℕ) (fixed : Bool) (first : First) (b : List ℕ) → read ≤ most_bytes → length b < n
    → ran_by n (between read fixed (Some first)) [] b ≡ capped (read + length b) (frames_played (Like first) (take (most_bytes - read) b))
frames_ran zero read fixed first b few enough = absurd (omega arith)
frames_ran (suc zero) read fixed first b few enough = tail_ran 0 read fixed first b few (omega arith)
frames_ran (suc (suc zero)) read fixed first b few enough = tail_ran 1 read fixed first b few (omega arith)
frames_ran (suc (suc (suc n))) read fixed first b few enough =
    dite (dec_lt (min (most_bytes - read) (length b)) 8)
    (λ short. tail_ran (suc (suc n)) read fixed first b few short)
    (λ long. framed read fixed (Some first) b few (omega arith) n enough (frames_ran n (read + length_of (header_at b 0)) fixed first (past_frame b)))

-- ---- from the first frame on, which is like itself

first_ran : (n : ℕ) (fixed : Bool) (b : List ℕ) → length b < n
    → let heard = take (most_bytes - 8) b in ran_by n (between 8 fixed None) [] b ≡ capped (8 + length b) (unless_said (first_of (some_rules heard)) (body_played fixed heard))
unfolding first_of
first_ran n fixed b enough = go n enough
  where
    heard : List ℕ
    heard = take (most_bytes - 8) b

    counts : length heard ≡ min (most_bytes - 8) (length b)
    counts = length-take (most_bytes - 8) b

    none_ran : (n : ℕ) → min (most_bytes - 8) (length b) < 8 → ran_by (suc n) (between 8 fixed None) [] b ≡ capped (8 + length b) (unless_said (first_of (some_rules heard)) (body_played fixed heard))
    none_ran n short = end_ran 8 fixed None b (omega arith) short (λ left. some 2) (λ left. refl) n ∙ rw (lt-ltb (length heard) 8 (omega (arith, counts)))

    go : (n : ℕ) → length b < n → ran_by n (between 8 fixed None) [] b ≡ capped (8 + length b) (unless_said (first_of (some_rules heard)) (body_played fixed heard))
    go zero enough = absurd (omega arith)
    go (suc zero) enough = none_ran 0 (omega arith)
    go (suc (suc zero)) enough = none_ran 1 (omega arith)
    go (suc (suc (suc n))) enough =
        let h = header_at b 0 in
        dite (dec_lt (min (most_bytes - 8) (length b)) 8)
        (λ short. none_ran (suc (suc n)) short)
        (λ long.
        let some = le-ltb (length heard) 8 (omega (arith, counts)) in
        framed 8 fixed None b (omega arith) (omega arith) n enough (frames_ran n (8 + length_of h) fixed (record { fixed = fixed; channels = h.channels; rate = h.rate }) (past_frame b))
        ∙ rw (some, header_take (most_bytes - 8) b 0 (omega arith)))

-- ---- the file header

rules_taken : (k : ℕ) (b : List ℕ) → 8 ≤ k → first_of (file_rules (take k b)) ≡ first_of (file_rules b)
unfolding file_rules
rules_taken k b le =
    let counts = length-take k b in
    rw (short_taken 4 (omega arith), short_taken 8 le, be_take 4 k b 0 (omega arith))
  where
    short_taken : (j : ℕ) → j ≤ k → ltb (length (take k b)) j ≡ ltb (length b) j
    short_taken j lj =
        dite (dec_lt (length b) j)
        (λ short. lt-ltb (length (take k b)) j (omega (arith, length-take k b)) ∙ sym (lt-ltb (length b) j short))
        (λ long. le-ltb (length (take k b)) j (omega (arith, length-take k b)) ∙ sym (le-ltb (length b) j (omega arith)))

-- ---- the whole run, with as many decisions as it may take or more

start_decided : (b : List ℕ) → decided begun (take 8 b) ≡ unless_stopped (first_of (file_rules b)) (reads (between 8 (is_fixed (total_of b)) None))
unfolding decided decided_start
start_decided b = rw (rules_taken 8 b (omega arith), be_take 4 8 b 4 (omega arith))

-- after the file header, in the file's mode
abbrev body_from : Bool → List ℕ → Played
body_from fixed b = unless_said (first_of (some_rules b)) (body_played fixed b)

file_heard : (b : List ℕ) → file_played (take most_bytes b) ≡ unless_said (first_of (file_rules b)) (body_from (is_fixed (total_of b)) (drop 8 (take most_bytes b)))
unfolding file_played
file_heard b = rw (rules_taken most_bytes b (omega arith), be_take 4 most_bytes b 4 (omega arith))

module _ (n : ℕ) (b : List ℕ) (enough : length b < n + 1) where
  abbrev fixed : Bool
  fixed = is_fixed (total_of b)

  after_start : (o : Option ℕ) → first_of (file_rules b) ≡ o
      → carried_out (λ next kept. ran_by n next kept (drop 8 b)) (take 8 b) (length b) (unless_stopped o (reads (between 8 fixed None)))
      ≡ capped (length b) (unless_said o (body_from fixed (drop 8 (take most_bytes b))))
  after_start (some x) e = ap only (said_number (length b) x)
  after_start none e =
      let left = length-drop 8 b in
      let long = (head_good b (quiet (file_rules b) e)).long in
      let sum : 8 + length (drop 8 b) ≡ length b = omega arith in
      first_ran n fixed (drop 8 b) (omega arith) ∙ ap₂ (λ (all : ℕ) (x : List ℕ). capped all (body_from fixed x)) sum (sym (drop_take 8 most_bytes b))

pub ran_enough : (n : ℕ) (b : List ℕ) → length b < n → ran_by n begun [] b ≡ played b
unfolding played
ran_enough zero b enough = absurd (omega arith)
ran_enough (suc n) b enough =
    turn b n begun (omega arith) ∙ rw (start_decided b, zero-add) (after_start n b (omega arith) (first_of (file_rules b)) refl) ∙ ap (capped (length b)) (sym (file_heard b))

-- the program's run is what it is to do
pub ran_played : (b : List ℕ) → ran b ≡ played b
unfolding ran
ran_played b = ran_enough (length b + 1) b (omega arith)
