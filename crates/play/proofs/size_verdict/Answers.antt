-- `play::size_verdict` meets its contract. Assumes nothing.
use mathlib.Core.Path.{ap, ◌∙◌}
use Rattle.play.specs.Decisions.{reads}
use Rattle.play.proofs.Deciding.{size_cut, size_large, size_on}
use Rattle.play.proofs.size_verdict.Goals as goal

pub returns-then-size-gt-MOST_HELD : goal.returns-then-size-gt-MOST_HELD
returns-then-size-gt-MOST_HELD c = let a = c.args in size_large a.run a.h a.left _ c.length-size.ensures c.if-size-gt-MOST_HELD.true

pub returns-then-left-end : goal.returns-then-left-end
returns-then-left-end c = let a = c.args in size_cut a.run a.h a.left _ c.length-size.ensures _ c.state_end-end.ensures c.if-size-gt-MOST_HELD.false c.if-left-end.true

pub returns : goal.returns
returns c = let a = c.args in ap reads c.within.ensures ∙ size_on a.run a.h a.left _ c.length-size.ensures _ c.state_end-end.ensures c.if-size-gt-MOST_HELD.false c.if-left-end.false
