-- `lines::search::find` meets its contract: `position` finds the first place in the text's end from `from` on. Assumes nothing.
use mathlib.Core.Path.{◌≡◌, subst, sym, ◌∙◌, ap}
use mathlib.Core.Logic.{◌≢◌}
use borrow.Author.Tests.{tests}
use native.Mathlib.Omega.{arith}
use Prim.Native.Nat.{ℕ, ◌+◌, ◌-◌, ◌≤◌, ◌<◌}
use mathlib.Core.List.{List}
use lib.ListN.{length, drop, get_or}
use Rattle.std.specs.Prelude.{Option, Some, None}
use Rattle.std.specs.Option.{MatchOption}
use Rattle.std.specs.List.{AllWithin, HoldsAt}
use Rattle.std.proofs.Common.{rules}
use Rattle.std.proofs.lemmas.Iterator.{IsFirst-from_position, YieldsList-from_slice}
use Rattle.std.proofs.lemmas.List.{get_or-drop, length-drop, take_rest}
use Rattle.lines.specs.Find.{FirstPlace}
use Rattle.lines.proofs.search.find.Goals as goal
use Rattle.lines.proofs.search.find.Goals.{After-position}

-- what `position` answers on the bytes `all`
abbrev IsFirst : List ℕ → ℕ → Option ℕ → Type 0
IsFirst all byte r =
    MatchOption r (AllWithin (λ b. b ≢ byte) all 0 (length all)) (λ i. (i < length all) × HoldsAt (λ b. b ≡ byte) all i × AllWithin (λ b. b ≢ byte) all 0 i)

first : (c : After-position) → IsFirst (drop c.args.from c.args.text.now) c.args.byte c.position.result
first c =
    IsFirst-from_position _ _ _ (λ b. b ≡ c.args.byte) (λ b. b ≢ c.args.byte) c.position.ensures.ran (YieldsList-from_slice (drop c.args.from c.args.text.now) (c.iter.ensures.rest ∙ take_rest c.args.text.now c.args.from)) (λ x q k. search (rules, tests)) (λ x q k. search (rules, tests))

module _ (text : List ℕ) (from byte : ℕ) where
  -- the end from `from` on has the text's bytes
  away : (k : ℕ) → from ≤ k → get_or (drop from text) (k - from) 0 ≢ byte → get_or text k 0 ≢ byte
  away k h not e = let same : from + (k - from) ≡ k = omega arith in not (get_or-drop from text (k - from) 0 ∙ ap (λ j. get_or text j 0) same ∙ e)

  found : (i : ℕ) → IsFirst (drop from text) byte (Some i) → FirstPlace text from byte (from + i)
  found i m =
      let long = length-drop from text in
      record {
        within = omega arith;
        onward = omega arith;
        before = λ k l h. away k h (m.2 (k - from) 0 (omega arith) (omega arith));
        there = λ _. sym (get_or-drop from text i 0) ∙ m.1 0;
      }

  missed : IsFirst (drop from text) byte None → from ≤ length text → FirstPlace text from byte (length text)
  missed m room =
      let long = length-drop from text in
      record {
        within = omega arith;
        onward = omega arith;
        before = λ k l h. away k h (m (k - from) 0 (omega arith) (omega arith));
        there = λ l. absurd (omega arith);
      }

pub returns-in-Some : goal.returns-in-Some
returns-in-Some c =
    found c.args.text.now c.args.from c.args.byte c.in-Some.i (subst (IsFirst (drop c.args.from c.args.text.now) c.args.byte) c.in-Some.is (first (goal.at.returns-in-Some c).After-position))

pub returns-in-None : goal.returns-in-None
returns-in-None c =
    missed c.args.text.now c.args.from c.args.byte (subst (IsFirst (drop c.args.from c.args.text.now) c.args.byte) c.in-None.is (first (goal.at.returns-in-None c).After-position)) (omega arith)
