-- The run that a decision hands out keeps to the buffer, and is nearer to its end; a frame that is played is there whole. Assumes nothing.
use Prim.Native.Nat.{ℕ, ◌+◌, ◌-◌, ◌*◌, ◌≤◌, ◌<◌}
use mathlib.Core.Path.{◌≡◌, refl, ap}
use mathlib.Core.Bool.{Bool, true, false, cond}
use mathlib.Core.List.{List}
use mathlib.Core.Option.{Option, none, some}
use native.Mathlib.Omega.{arith}
use Rattle.std.specs.Prelude.{Some, None, is_none}
use borrow.Author.Tests.{ltb-false}
use lib.Dec.{ltb}
use lib.ListN.{length, take}
use lib.Seq.{length-take-le}
use Rattle.refusal.specs.Rules.{first_of}
use Rattle.word.proofs.Fields.{AreBytes}
use Rattle.format.specs.Format.{most_bytes, state_end}
use Rattle.format.specs.FileHeader.{file_rules, is_fixed, total_of}
use Rattle.format.specs.Header.{header_at}
use Rattle.format.specs.Part.{cut_rules, length_of}
use Rattle.format.specs.Checks.{frame_rules}
use Rattle.format.proofs.Headers.{header_small, header_take}
use Rattle.format.proofs.Checking.{passed}
use Rattle.file.specs.Parts.{IsFree}
use Rattle.file.proofs.Frames.{frame_eight}
use Rattle.play.specs.Played.{Said, most_held, too_large, number}
use Rattle.play.specs.Decisions.{Decided, between, counted, decided, decided_at, decided_body, decided_end, decided_head, decided_size, decided_start, decided_state, first_for, kind_for, plays, reads, stops, unless_stopped, within}
use Rattle.play.specs.Parts.{GoodRun}
use Rattle.play.specs.declared.Run.{Run}
use Rattle.play.specs.declared.Stage.{Stage}
use Rattle.play.specs.declared.Stage.TheVariants.{FileHead, FrameHead, FrameState, FrameBody}
use Rattle.play.proofs.Stepping.{length_past_state, state_past_eight}

-- ---- how far a run is from its end

abbrev stages : Stage → ℕ
stages FileHead = 3 * most_bytes + 3
stages FrameHead = 2
stages FrameState = 1
stages FrameBody = 0

abbrev pub to_go : Run → ℕ
to_go run = 3 * (most_bytes - run.read) + stages run.stage

pub record Onward (run next : Run) : Type 0 where
  pub good : GoodRun next
  pub nearer : to_go next < to_go run

-- ---- which decision it is

not_reads : {X : Type 0} (s : Said) (r : Run) → stops s ≡ reads r → X
not_reads s r e = let z : ◌≡◌ {A = ℕ} 0 1 = cc in absurd (omega arith)

unless_reads : (o : Option ℕ) (d : Decided) (r : Run) → unless_stopped o d ≡ reads r → (o ≡ none) × (d ≡ reads r)
unless_reads none d r e = (refl, e)
unless_reads (some n) d r e = not_reads (number n) r e

cond_reads : (t : Bool) (s : Said) (d : Decided) (r : Run) → cond t (stops s) d ≡ reads r → (t ≡ false) × (d ≡ reads r)
cond_reads true s d r e = not_reads s r e
cond_reads false s d r e = (refl, e)

same_run : (x y : Run) → reads x ≡ reads y → x ≡ y
same_run x y e = cc

unless_plays : (o : Option ℕ) (d : Decided) (size : ℕ) (r : Run) → unless_stopped o d ≡ plays size r → (o ≡ none) × (d ≡ plays size r)
unless_plays none d size r e = (refl, e)
unless_plays (some n) d size r e = let z : ◌≡◌ {A = ℕ} 0 1 = cc in absurd (omega arith)

same_play : (m n : ℕ) (x y : Run) → plays m x ≡ plays n y → (m ≡ n) × (x ≡ y)
same_play m n x y e = (cc, cc)

-- whether a frame is played
abbrev loud : Decided → ℕ
loud (plays size r) = 1
loud (reads r) = 0
loud (stops s) = 0

unless_quiet : (o : Option ℕ) (d : Decided) → loud d ≡ 0 → loud (unless_stopped o d) ≡ 0
unless_quiet none d e = e
unless_quiet (some n) d e = refl

cond_quiet : (t : Bool) (d e : Decided) → loud d ≡ 0 → loud e ≡ 0 → loud (cond t d e) ≡ 0
cond_quiet true d e p q = p
cond_quiet false d e p q = q

-- what is played: a frame whole, within the bytes that are held
pub record Sounds (run : Run) (f : List ℕ) (size : ℕ) (next : Run) : Type 0 where
  pub onward : Onward run next
  pub there : size ≤ length f
  pub free : IsFree (take size f)

-- ---- each stage that reads on

begun_good : (fixed : Bool) → GoodRun (between 8 fixed None)
begun_good fixed = record { few_read = omega arith; in_order = omega arith; fits = omega arith; header_held = omega arith }

state_fits : (c : ℕ) → c < 256 → state_end c ≤ most_held
unfolding state_end
state_fits c small = omega arith

module _ (run : Run) (f : List ℕ) (good : GoodRun run) where
  start_onward : run.stage ≡ FileHead → (r : Run) → decided_start f ≡ reads r → Onward run r
  unfolding decided_start
  start_onward at r e =
      let fixed : Bool = is_fixed (total_of f) in
      let same = same_run (between 8 fixed None) r (unless_reads (first_of (file_rules f)) (reads (between 8 fixed None)) r e).1 in
      rw (← same) (record { good = begun_good fixed; nearer = rw at (omega arith) })

  head_onward : AreBytes f → run.stage ≡ FrameHead → (r : Run) → decided_head run f ≡ reads r → Onward run r
  unfolding decided_head
  head_onward bytes at r e =
      let next : Run = within run FrameState 8 (state_end (header_at f 0).channels) in
      let same = same_run next r (past_end (ltb (length f) 8) (reads next) (cond_reads (ltb (counted run (length f)) (length f)) (number 9) _ r e).1) in
      rw (← same) (record {
        good = record {
          few_read = good.few_read;
          in_order = state_past_eight (header_at f 0).channels;
          fits = state_fits (header_at f 0).channels (header_small f 0 bytes).channels_small;
          header_held = omega arith;
        };
        nearer = rw at (omega arith);
      })
    where
      past_end : (t : Bool) (d : Decided) → cond t (decided_end run (length f)) d ≡ reads r → d ≡ reads r
      past_end true d e = not_reads _ r (cond_reads (is_none run.first) (number 2) _ r e).1
      past_end false d e = e

  state_onward : run.stage ≡ FrameState → (r : Run) → decided_state run f ≡ reads r → Onward run r
  unfolding decided_state decided_size
  state_onward at r e =
      let h = header_at f 0 in
      let left = counted run (length f) in
      let next : Run = within run FrameBody (state_end h.channels) (length_of h) in
      let sized = cond_reads (ltb most_held (length_of h)) too_large _ r (unless_reads (first_of (frame_rules (kind_for run h) h 8 left)) _ r e).1 in
      let same = same_run next r (unless_reads (first_of (cut_rules (state_end h.channels) left)) (reads next) r sized.1).1 in
      rw (← same) (record {
        good = record {
          few_read = good.few_read;
          in_order = length_past_state h;
          fits = ltb-false most_held (length_of h) sized.0;
          header_held = state_past_eight h.channels;
        };
        nearer = rw at (omega arith);
      })

  never_onward : {X : Type 0} (r : Run) → decided_body run f ≡ reads r → X
  unfolding decided_body
  never_onward r e =
      let h = header_at f 0 in
      let z : ◌≡◌ {A = ℕ} 0 1 = never _ _ r (unless_reads (first_of (frame_rules (kind_for run h) h (length_of h) (counted run (length f)))) _ r e).1 in
      absurd (omega arith)
    where
      never : (size : ℕ) (next r : Run) → plays size next ≡ reads r → ◌≡◌ {A = ℕ} 0 1
      never size next r e = cc

  pub reads_on : AreBytes f → (r : Run) → decided run f ≡ reads r → Onward run r
  unfolding decided
  reads_on bytes r e = go run.stage refl e
    where
      go : (s : Stage) → run.stage ≡ s → decided_at s run f ≡ reads r → Onward run r
      go FileHead at e = start_onward at r e
      go FrameHead at e = head_onward bytes at r e
      go FrameState at e = state_onward at r e
      go FrameBody at e = never_onward r e

  -- ---- a frame

  body_onward : run.stage ≡ FrameBody → (size : ℕ) (r : Run) → decided_body run f ≡ plays size r → Sounds run f size r
  unfolding decided_body
  body_onward at size r e =
      let h = header_at f 0 in
      let left = counted run (length f) in
      let next : Run = between (run.read + length_of h) run.fixed (Some (first_for run h)) in
      let found = unless_plays (first_of (frame_rules (kind_for run h) h (length_of h) left)) (plays (length_of h) next) size r e in
      let facts = passed (kind_for run h) h (length_of h) left found.0 in
      let eight = frame_eight h in
      let here : header_at (take (length_of h) f) 0 ≡ h = header_take (length_of h) f 0 eight in
      let same = same_play (length_of h) size next r found.1 in
      rw (← same.0, ← same.1) (record {
        onward = record {
          good = record { few_read = omega (arith, facts.there, good.few_read); in_order = omega arith; fits = omega arith; header_held = omega arith };
          nearer = rw at (omega (arith, facts.there, good.few_read));
        };
        there = omega (arith, facts.there);
        free = record { passes = rw here facts.header; whole = rw here (length-take-le (length_of h) f (omega (arith, facts.there))) };
      })

  -- no other stage plays
  start_quiet : loud (decided_start f) ≡ 0
  unfolding decided_start
  start_quiet = unless_quiet (first_of (file_rules f)) _ refl

  head_quiet : loud (decided_head run f) ≡ 0
  unfolding decided_head
  head_quiet =
      cond_quiet (ltb (counted run (length f)) (length f)) _ _ refl
      (cond_quiet (ltb (length f) 8) _ _ (cond_quiet (is_none run.first) _ _ refl refl) refl)

  state_quiet : loud (decided_state run f) ≡ 0
  unfolding decided_state decided_size
  state_quiet =
      let h = header_at f 0 in
      let left = counted run (length f) in
      unless_quiet (first_of (frame_rules (kind_for run h) h 8 left)) _
      (cond_quiet (ltb most_held (length_of h)) _ _ refl (unless_quiet (first_of (cut_rules (state_end h.channels) left)) _ refl))

  pub plays_on : (size : ℕ) (r : Run) → decided run f ≡ plays size r → Sounds run f size r
  unfolding decided
  plays_on size r e = go run.stage refl e
    where
      never : {X : Type 0} (d : Decided) → loud d ≡ 0 → d ≡ plays size r → X
      never d q e = let one : loud d ≡ 1 = ap loud e in absurd (omega arith)

      go : (s : Stage) → run.stage ≡ s → decided_at s run f ≡ plays size r → Sounds run f size r
      go FileHead at e = never (decided_start f) start_quiet e
      go FrameHead at e = never (decided_head run f) head_quiet e
      go FrameState at e = never (decided_state run f) state_quiet e
      go FrameBody at e = body_onward at size r e
