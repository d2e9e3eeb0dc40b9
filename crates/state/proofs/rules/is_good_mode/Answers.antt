-- `state::rules::is_good_mode` meets its contract. Assumes nothing.
use borrow.Author.Tests.{le-leb, lt-leb}
use native.Mathlib.Omega.{arith}
use mathlib.Core.Path.{◌≡◌, refl, ap₂, sym, ◌∙◌}
use mathlib.Core.Bool.{Bool, true, false, ◌&&◌}
use lib.Dec.{leb}
use Prim.Native.Nat.{ℕ}
use Rattle.std.specs.Ordering.{is_le, nat_cmp}
use Rattle.std.proofs.lemmas.Bool.Decides.{nat_tests}
use Rattle.format.specs.Format.{max_channels, most_rate}
use Rattle.state.specs.States.{mode_rule}
use Rattle.state.proofs.rules.is_good_mode.Goals as goal
use Rattle.state.proofs.rules.is_good_mode.Goals.{After-contains-then-contains, Joined-samples-ne0, then-samples-ne0, else-samples-ne0}

le_said : (a b : ℕ) → is_le (nat_cmp a b) ≡ leb a b
le_said a b = grind (arith, nat_tests)

-- the rule's order, and the code's
grouped : (a b c d : Bool) → (a && (b && (c && d))) ≡ ((a && (b && c)) && d)
grouped false b c d = refl
grouped true false c d = refl
grouped true true c d = refl

rate_said : (c : After-contains-then-contains) → c.contains-then-contains.result ≡ (leb 1 c.in-FixedSamples.rate && leb c.in-FixedSamples.rate most_rate)
rate_said c = let r = c.new-then-contains.ensures in c.contains-then-contains.ensures.value ∙ rw (r.start, r.end, r.exhausted) (ap₂ ◌&&◌ (le_said 1 c.in-FixedSamples.rate) (le_said c.in-FixedSamples.rate most_rate))

channels_said : (c : Joined-samples-ne0)
    → c.if-samples-ne0.value ≡ (leb 1 c.in-FixedSamples.samples && (leb 1 c.in-FixedSamples.channels && leb c.in-FixedSamples.channels max_channels))
channels_said c =
    elim c.if-samples-ne0.branch [
      | then-samples-ne0 w ↦ let r = w.new.ensures in
          rw (le-leb 1 c.in-FixedSamples.samples (omega arith)) (w.value-is ∙ w.contains.ensures.value ∙ rw (r.start, r.end, r.exhausted) (ap₂ ◌&&◌ (le_said 1 c.in-FixedSamples.channels) (le_said c.in-FixedSamples.channels max_channels)))
      | else-samples-ne0 w ↦ rw (lt-leb 1 c.in-FixedSamples.samples (omega arith)) (w.value-is ∙ rw w.if-samples-ne0.false)
    ]

pub returns-in-Streaming : goal.returns-in-Streaming
unfolding mode_rule
returns-in-Streaming c = rw c.in-Streaming.is

pub returns-then-contains : goal.returns-then-contains
unfolding mode_rule
returns-then-contains c =
    let m = c.in-FixedSamples in
    let first = sym (channels_said (goal.at.returns-then-contains c).Joined-samples-ne0) ∙ c.if-contains.true in
    rate_said c ∙ sym (rw m.is (grouped (leb 1 m.samples) (leb 1 m.channels) (leb m.channels max_channels) _ ∙ rw first))

pub returns-else-contains : goal.returns-else-contains
unfolding mode_rule
returns-else-contains c =
    let m = c.in-FixedSamples in
    let failed = sym (channels_said (goal.at.returns-else-contains c).Joined-samples-ne0) ∙ c.if-contains.false in
    c.if-contains.false ∙ sym (rw m.is (grouped (leb 1 m.samples) (leb 1 m.channels) (leb m.channels max_channels) _ ∙ rw failed))
