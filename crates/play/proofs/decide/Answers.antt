-- `play::decide` meets its contract. Assumes nothing.
use mathlib.Core.Path.{ap, sym, ◌∙◌}
use Rattle.play.specs.declared.Stage.{Stage}
use Rattle.play.specs.Decisions.{decided, decided_at}
use Rattle.play.proofs.decide.Goals as goal

pub returns-in-FileHead : goal.returns-in-FileHead
unfolding decided
returns-in-FileHead c = c.start.ensures ∙ ap (λ (s : Stage). decided_at s c.args.run c.args.bytes.now) (sym c.in-FileHead.is)

pub returns-in-FrameHead : goal.returns-in-FrameHead
unfolding decided
returns-in-FrameHead c = c.head.ensures ∙ ap (λ (s : Stage). decided_at s c.args.run c.args.bytes.now) (sym c.in-FrameHead.is)

pub returns-in-FrameState : goal.returns-in-FrameState
unfolding decided
returns-in-FrameState c = c.verdict.ensures ∙ ap (λ (s : Stage). decided_at s c.args.run c.args.bytes.now) (sym c.in-FrameState.is)

pub returns-in-FrameBody : goal.returns-in-FrameBody
unfolding decided
returns-in-FrameBody c = c.body.ensures ∙ ap (λ (s : Stage). decided_at s c.args.run c.args.bytes.now) (sym c.in-FrameBody.is)
