-- `trial::attempt` meets its contract: the coder gives the residual's code and table value, and no table value is beyond 14336.
-- Assumes nothing.
use mathlib.Core.Path.{◌≡◌, ap, ◌∙◌}
use lib.IntN.{ℤ, ◌-ℤ◌}
use mir.Syntax.{w16, w32}
use mir.Facts.{to_z-of_z}
use Rattle.std.proofs.Common.{rules}
use Rattle.wrap.proofs.Integers.{reread, returned}
use Rattle.lms.specs.Predictor.{at, cost_of, predicted}
use Rattle.lms.proofs.Bounds.{clamp16_fits}
use Rattle.scale.specs.Division.{code_for, divided_by}
use Rattle.scale.specs.Tables.{row_of}
use Rattle.trial.specs.declared.Heard.{Heard}
use Rattle.trial.specs.Trial.{code_tried, heard, sample_of, sum_tried, tried, value_tried}
use Rattle.trial.proofs.Bounds.{value_small}
use Rattle.trial.proofs.attempt.Given.{Over}
use Rattle.trial.proofs.attempt.Goals as goal
use Rattle.trial.proofs.attempt.Goals.{After-coded-coded, After-hear-heard}

residual-is : (g : Over) (c : After-coded-coded g) → reread w32 c.residual-v.result ≡ c.args.sample -ℤ predicted c.args.lms
residual-is g c = returned w32 c.residual-v.result c.residual-v.type_inv c.residual-v.ensures ∙ ap (λ (x : ℤ). x -ℤ predicted c.args.lms) (to_z-of_z c.ranges.sample)

code-is : (g : Over) (c : After-coded-coded g) → c.coded-coded.result.code ≡ code_tried c.args.lms c.args.sample (g.C.Coder.factor c.args.coder.now)
unfolding code_tried
code-is g c = c.coded-coded.ensures.code ∙ ap (λ (v : ℤ). code_for (divided_by v (g.C.Coder.factor c.args.coder.now))) (residual-is g c)

value-is : (g : Over) (c : After-coded-coded g) → reread w32 c.coded-coded.result.value ≡ value_tried c.args.lms c.args.sample (g.C.Coder.factor c.args.coder.now)
unfolding value_tried code_tried
value-is g c =
    returned w32 c.coded-coded.result.value (search rules) (c.coded-coded.ensures.value ∙ ap (λ (v : ℤ). at (row_of (g.C.Coder.factor c.args.coder.now)) (code_for (divided_by v (g.C.Coder.factor c.args.coder.now)))) (residual-is g c))

pub hear-heard-requires : goal.hear-heard-requires
hear-heard-requires g c =
    let p = (goal.at.hear-heard-requires g c).After-coded-coded in
    (c.requires, rw (value-is g p) (value_small c.args.lms c.args.sample _ (g.met.C.Coder.in_range c.args.coder.now)))

pub returns : goal.returns
unfolding tried sum_tried heard sample_of
returns g c =
    let p = (goal.at.returns g c).After-coded-coded in
    let heard-is : c.hear-heard.result ≡ heard c.args.lms (value_tried c.args.lms c.args.sample (g.C.Coder.factor c.args.coder.now)) = c.hear-heard.ensures ∙ ap (heard c.args.lms) (value-is g p) in
    let sum = ap (λ (h : Heard). reread w16 h.sample) heard-is ∙ to_z-of_z (clamp16_fits _) in
    let cost = c.cost-cost.ensures ∙ (λ j. cost_of (to_z-of_z c.ranges.sample j) (sum j) (c.penalty.ensures j)) in
    λ j. record { code = code-is g p j; sum = sum j; cost = cost j; lms = (heard-is j).lms }
