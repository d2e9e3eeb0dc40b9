-- `format::checks::check_state` meets its contract. Assumes nothing.
use Prim.Native.Nat.{ℕ}
use mathlib.Core.Path.{ap, ◌∙◌}
use Rattle.refusal.specs.Rules.{first_of}
use Rattle.format.specs.Part.{cut_rules}
use Rattle.format.proofs.checks.check_state.Goals as goal

pub returns-then-fixed : goal.returns-then-fixed
unfolding first_of
returns-then-fixed c = rw c.if-fixed.true

pub returns : goal.returns
returns c =
    let args = c.args in
    rw c.if-fixed.false (c.check_cut.ensures ∙ ap (λ (n : ℕ). first_of (cut_rules n args.left)) c.state_end.ensures)
