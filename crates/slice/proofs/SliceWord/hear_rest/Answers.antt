-- `slice::SliceWord::hear_rest` meets its contract. The loop's invariant: whatever predictor the slice began with, `i` samples of it are heard.
-- The measure is what is left of the twenty. Assumes nothing.
use mathlib.Core.Path.{ap, ◌∙◌}
use native.Mathlib.Numerals.{add-one}
use native.Mathlib.Omega.{arith}
use Rattle.lms.proofs.Bounds.{within_more}
use Rattle.trial.specs.declared.Heard.{Heard}
use Rattle.trial.proofs.Bounds.{heard_within}
use Rattle.slice.specs.Slice.{residual_at, state_after}
use Rattle.slice.proofs.Growth.{residual_small}
use Rattle.slice.proofs.SliceWord.hear_rest.Goals as goal

pub loop-i-preserved : goal.loop-i-preserved
unfolding state_after
loop-i-preserved c =
    let heard-is = c.hear-heard.ensures in
    let word = c.args.self.now.word in (
      omega arith,
      rw heard-is (within_more (omega arith) (heard_within (residual_at word c.loop-i.i) (residual_small word c.loop-i.i) c.loop-i.invariant.1)),
      λ s e. ap (λ (h : Heard). h.lms) heard-is ∙ rw (add-one, c.loop-i.invariant.2 s e),
    )
