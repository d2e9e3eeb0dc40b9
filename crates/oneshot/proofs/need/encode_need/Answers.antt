-- `oneshot::need::encode_need` meets its contract. The first rule of `need_rules` that fires, one return for each. Assumes nothing.
use mathlib.Core.Path.{ap, sym, ◌∙◌}
use Prim.Native.Nat.{ℕ}
use native.Mathlib.Omega.{arith}
use Rattle.refusal.specs.Rules.{Answer, good}
use Rattle.refusal.proofs.Rules.{good_after, refused_at}
use Rattle.word.proofs.Tests.{tests}
use Rattle.oneshot.specs.OneShot.{need_rules}
use Rattle.oneshot.proofs.need.encode_need.Goals as goal
use Rattle.oneshot.proofs.need.encode_need.Goals.{then-channels-eq0-via-then-channels-eq0, then-channels-eq0-via-else-channels-eq0+then-channels-gt-QOA_MAX_CHANNELS}

pub returns-then-channels-eq0 : goal.returns-then-channels-eq0
unfolding need_rules
returns-then-channels-eq0 c =
    elim c.then-channels-eq0.branch [
      | then-channels-eq0-via-then-channels-eq0 w ↦ sym (refused_at 0 _ 11 _ (omega (arith, tests)))
      | then-channels-eq0-via-else-channels-eq0+then-channels-gt-QOA_MAX_CHANNELS w ↦ sym (refused_at 1 _ 11 _ (omega (arith, tests)))
    ]

pub returns-then-total-eq0 : goal.returns-then-total-eq0
unfolding need_rules
returns-then-total-eq0 c = sym (refused_at 2 _ 13 _ (omega (arith, tests)))

pub returns : goal.returns
unfolding need_rules
returns c = ap {B = Answer ℕ} good c.file_need.ensures ∙ sym (good_after _ _ (omega (arith, tests)))
