-- One frame at the start of a list: why it is not played, in terms of whole-file decoding's rules. Assumes nothing.
use Prim.Native.Nat.{ℕ, ◌≤◌, ◌<◌}
use mathlib.Core.Path.{◌≡◌, refl, ◌∙◌}
use mathlib.Core.Bool.{Bool, true, false}
use mathlib.Core.List.{List}
use mathlib.Core.Option.{Option, none, some}
use native.Mathlib.Omega.{arith}
use borrow.Author.Tests.{le-ltb, lt-ltb, ltb-false, ltb-true}
use lib.Dec.{ltb}
use lib.ListN.{length}
use Rattle.refusal.specs.Rules.{Rule, first_of}
use Rattle.refusal.proofs.Rules.{Quiet, none_fires, quiet, quiet_both, quiet_parts}
use Rattle.word.proofs.Tests.{tests}
use Rattle.format.specs.Format.{state_end}
use Rattle.format.specs.Header.{header_at, header_rules}
use Rattle.format.specs.Part.{cut_rules, length_of}
use Rattle.format.specs.Checks.{frame_rules, kind_rules, same_rules, state_rules}
use Rattle.format.specs.Parts.{sooner}
use Rattle.format.specs.declared.frame.FrameHeader.{FrameHeader}
use Rattle.format.specs.declared.checks.First.{First}
use Rattle.format.specs.declared.checks.Kind.{Kind}
use Rattle.format.specs.declared.checks.Kind.TheVariants.{Like}
use Rattle.format.proofs.Checking.{checks, in_order, like_same, quiet_checks}
use Rattle.file.specs.Walk.{rules_at}
use Rattle.file.specs.Whole.{like_first}
use Rattle.play.specs.Played.{Said, most_held, nothing, number, or_else, too_large, unplayed}
use Rattle.play.proofs.Terms.{LargeFrame}

-- ---- the rules before the whole frame's, then that

sooner_none : (o : Option ℕ) → sooner o none ≡ o
sooner_none none = refl
sooner_none (some n) = refl

sooner_twice : (x y z : Option ℕ) → sooner x (sooner y z) ≡ sooner (sooner x y) z
sooner_twice none y z = refl
sooner_twice (some n) y z = refl

module _ (kind : Kind) (b : List ℕ) where
  abbrev h : FrameHeader
  h = header_at b 0

  -- the first refusal by the header and the predictor state, and that of a cut frame
  abbrev early : Option ℕ
  early = first_of (frame_rules kind h 8 (length b))

  abbrev late : Option ℕ
  late = first_of (cut_rules (length_of h) (length b))

  early_is : 8 ≤ length b → early ≡ sooner (first_of (header_rules h)) (first_of (kind_rules kind h (length b)))
  early_is long =
      in_order kind h 8 (length b)
      ∙ rw (none_fires (cut_rules 8 (length b)) (omega (arith, tests)), sooner_none (first_of (kind_rules kind h (length b))))

  whole_is : 8 ≤ length b → first_of (rules_at kind b) ≡ sooner early late
  whole_is long =
      in_order kind h (length_of h) (length b)
      ∙ sooner_twice (first_of (header_rules h)) (first_of (kind_rules kind h (length b))) late
      ∙ rw (early_is long)

-- ---- what is said of a frame

-- a frame that no check of its header and its predictor state refuses, and that is too large to be held
pub record TooLarge (kind : Kind) (b : List ℕ) : Type 0 where
  pub there : 8 ≤ length b
  pub checked : Quiet (frame_rules kind (header_at b 0) 8 (length b))
  pub over : most_held < length_of (header_at b 0)

-- what each verdict means
abbrev pub Why : Kind → List ℕ → Option Said → Type 0
Why kind b none = Quiet (rules_at kind b) × (length_of (header_at b 0) ≤ most_held)
Why kind b (some nothing) = ⊥
Why kind b (some (number n)) = first_of (rules_at kind b) ≡ some n
Why kind b (some too_large) = TooLarge kind b

module _ (kind : Kind) (b : List ℕ) (long : 8 ≤ length b) where
  pub why : Why kind b (unplayed kind b)
  unfolding unplayed
  why = go (early kind b) (ltb most_held (length_of (header_at b 0))) (late kind b) refl refl refl
    where
      go : (o : Option ℕ) (big : Bool) (cut : Option ℕ) → early kind b ≡ o → ltb most_held (length_of (header_at b 0)) ≡ big → late kind b ≡ cut
          → Why kind b (unplayed kind b)
      go (some n) big cut e l k = rw e (whole_is kind b long ∙ rw e)
      go none true cut e l k = rw (e, l) (record { there = long; checked = quiet _ e; over = ltb-true _ _ l })
      go none false (some n) e l k = rw (e, l, k) (whole_is kind b long ∙ rw (e, k))
      go none false none e l k = rw (e, l, k) (quiet _ (whole_is kind b long ∙ rw (e, k)), ltb-false _ _ l)

  -- where the frame is not too large, whole-file decoding's refusal
  pub same_refusal : length_of (header_at b 0) ≤ most_held → unplayed kind b ≡ or_else (first_of (rules_at kind b)) none
  unfolding unplayed
  same_refusal small = rw (le-ltb most_held (length_of (header_at b 0)) small, whole_is kind b long) (join (early kind b) (late kind b))
    where
      join : (x y : Option ℕ) → or_else x (or_else y none) ≡ or_else (sooner x y) none
      join none y = refl
      join (some n) y = refl

  pub held_whole : Quiet (rules_at kind b) → length_of (header_at b 0) ≤ most_held → unplayed kind b ≡ none
  held_whole q small = same_refusal small ∙ rw (none_fires (rules_at kind b) q)

pub said_too_large : (kind : Kind) (b : List ℕ) → TooLarge kind b → unplayed kind b ≡ some too_large
unfolding unplayed
said_too_large kind b t = rw (none_fires (frame_rules kind (header_at b 0) 8 (length b)) t.checked, lt-ltb most_held (length_of (header_at b 0)) t.over)

-- ---- a frame like the first that is too large

module _ (fixed : Bool) (c r : ℕ) (b : List ℕ) where
  abbrev first : First
  first = record { fixed = fixed; channels = c; rate = r }

  abbrev of_state : List Rule
  of_state = state_rules fixed (header_at b 0).channels (length b)

  abbrev of_same : List Rule
  of_same = same_rules c r (header_at b 0)

  pub is_large : TooLarge (like_first fixed c r) b → LargeFrame fixed c r b
  is_large l =
      let k = checks (Like first) (header_at b 0) 8 (length b) l.checked in
      let same = like_same first (header_at b 0) (length b) k.like in
      let state : (fixed : Bool) → Quiet (state_rules fixed c (length b)) → fixed ≡ false → state_end c ≤ length b =
      elim [ true ↦ λ q e. let z : ◌≡◌ {A = ℕ} 0 1 = cc in omega arith | false ↦ λ q e. omega (arith, tests) ] in
      record {
        there = l.there;
        passes = k.header;
        same_channels = same.same_channels;
        same_rate = same.same_rate;
        state_there = state fixed (rw same.same_channels at (quiet_parts of_state of_same k.like).0);
        over = l.over;
      }

  pub large_is : LargeFrame fixed c r b → TooLarge (like_first fixed c r) b
  large_is l =
      let same : Quiet of_same = omega (arith, tests) in
      let state : (fixed : Bool) → (fixed ≡ false → state_end c ≤ length b) → Quiet (state_rules fixed c (length b)) =
      elim [ true ↦ λ s. tt | false ↦ λ s. let there = s refl in omega (arith, tests) ] in
      let like = quiet_both of_state of_same (rw l.same_channels (state fixed l.state_there)) same in
      record {
        there = l.there;
        checked = quiet_checks (Like first) (header_at b 0) 8 (length b) (record { header = l.passes; like = like; there = l.there });
        over = l.over;
      }
