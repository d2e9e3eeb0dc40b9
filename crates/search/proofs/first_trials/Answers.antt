-- `search::first_trials` meets its contract. The invariant: the codes and keys below `sf` are in place.
-- Assumes nothing.
use Prim.Native.Nat.{ℕ, ◌+◌, ◌*◌, ◌^◌, ◌<◌}
use mathlib.Core.Path.{◌≡◌, ap, ◌∙◌}
use mathlib.Core.List.{List}
use native.Mathlib.Omega.{arith}
use lib.IntN.{ℤ}
use lib.ListN.{length, length-set}
use mir.Syntax.{w16}
use mir.Facts.{to_z-of_z}
use Rattle.wrap.proofs.Elements.{placed}
use Rattle.wrap.proofs.Integers.{reread}
use Rattle.word.specs.Table.{table}
use Rattle.lms.specs.declared.QoaLms.{QoaLms}
use Rattle.trial.specs.Trial.{tried}
use Rattle.trial.specs.declared.Tried.{Tried}
use Rattle.trial.proofs.Bounds.{tried_cost_lt}
use Rattle.search.specs.Search.{first_cost}
use Rattle.search.specs.Parts.{firsts_of, key_of}
use Rattle.search.proofs.Lists.{whole_table}
use Rattle.search.proofs.first_trials.Goals as goal
use Rattle.search.proofs.first_trials.Goals.{After-attempt-t}

-- What was tried, and what it costs at most.
tried-is : (c : After-attempt-t) → c.attempt-t.result ≡ tried c.args.lms (reread w16 c.args.sample) c.loop-sf.sf
tried-is c = c.attempt-t.ensures ∙ ap (tried c.args.lms (reread w16 c.args.sample)) c.row-row.ensures

cost-lt : (c : After-attempt-t) → c.attempt-t.result.cost < 2 ^ 33
cost-lt c = rw (tried-is c, to_z-of_z c.ranges.sample) (tried_cost_lt _ _ _ c.ranges.sample)

pub overflow_mul-keys : goal.overflow_mul-keys
overflow_mul-keys c = omega (arith, cost-lt (goal.at.overflow_mul-keys c).After-attempt-t)

pub overflow_add-keys : goal.overflow_add-keys
overflow_add-keys c = omega (arith, cost-lt (goal.at.overflow_add-keys c).After-attempt-t)

pub loop-sf-preserved : goal.loop-sf-preserved
unfolding first_cost
loop-sf-preserved c =
    let o = c.loop-sf in
    let lms = c.args.lms in
    let x : ℤ = reread w16 c.args.sample in
    let t = tried-is (goal.at.loop-sf-preserved c).After-attempt-t in
    let l : o.sf < length o.codes = omega arith in
    let m : o.sf < length o.keys = omega arith in (
      omega arith,
      simp length-set o.invariant.1,
      simp length-set o.invariant.2,
      placed (λ k. (tried lms x k).code) 0 o.codes o.sf _ l o.invariant.3 (ap (λ (u : Tried). u.code) t),
      placed (key_of (first_cost lms x)) 0 o.keys o.sf _ m o.invariant.4 (ap (λ (u : Tried). u.cost * 16 + o.sf) t),
    )

firsts : (lms : QoaLms) (x : ℤ) {codes keys : List ℕ} → codes ≡ table 16 (λ f. (tried lms x f).code) → keys ≡ table 16 (key_of (first_cost lms x)) → record { codes = codes; keys = keys } ≡ firsts_of lms x
unfolding firsts_of
firsts lms x p q = λ j. record { codes = p j; keys = q j }

pub returns : goal.returns
returns c =
    let o = c.loop-sf in
    let lms = c.args.lms in
    let x : ℤ = reread w16 c.args.sample in
    let codes = whole_table (λ k. (tried lms x k).code) o.codes 0 16 (λ k h. o.invariant.3 k (omega arith)) o.invariant.1 in
    let keys = whole_table (key_of (first_cost lms x)) o.keys 0 16 (λ k h. o.invariant.4 k (omega arith)) o.invariant.2 in
    firsts lms x codes keys ∙ ap (firsts_of lms) (to_z-of_z c.ranges.sample)
