-- `search::advance` meets its contract, from the trial's and the bounds of a trial.
-- Assumes nothing.
use borrow.Author.Rules.{rules}
use Prim.Native.Nat.{◌<◌, ◌^◌}
use mathlib.Core.Path.{◌≡◌, ap, ◌∙◌}
use native.Mathlib.Omega.{arith}
use lib.IntN.{ℤ}
use mir.Facts.{to_z-of_z}
use Rattle.trial.specs.Trial.{tried}
use Rattle.trial.proofs.Bounds.{tried_code_lt, tried_cost_lt}
use Rattle.search.specs.Candidate.{step_of}
use Rattle.search.proofs.advance.Goals as goal
use Rattle.search.proofs.advance.Goals.{After-attempt-t}

-- What was tried.
tried-is : (c : After-attempt-t) → c.attempt-t.result ≡ tried c.args.run.lms c.args.sample c.args.row.now.sf
tried-is c = c.attempt-t.ensures ∙ ap (λ (x : ℤ). tried c.args.run.lms x c.args.row.now.sf) (to_z-of_z c.ranges.sample)

cost-lt : (c : After-attempt-t) → c.attempt-t.result.cost < 2 ^ 33
cost-lt c = rw (tried-is c) (tried_cost_lt _ _ _ c.ranges.sample)

pub overflow_add-result : goal.overflow_add-result
overflow_add-result c = omega (arith, cost-lt (goal.at.overflow_add-result c).After-attempt-t)

pub push_code-requires : goal.push_code-requires
push_code-requires c = (search rules, rw (tried-is (goal.at.push_code-requires c).After-attempt-t) (tried_code_lt _ _ _))

pub returns : goal.returns
unfolding step_of
returns c = rw (c.push_code.ensures, tried-is (goal.at.returns c).After-attempt-t)
