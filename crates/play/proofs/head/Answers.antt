-- `play::head` meets its contract. Assumes nothing.
use mathlib.Core.Path.{ap, ◌∙◌}
use Rattle.format.specs.Format.{state_end}
use Rattle.format.specs.declared.frame.FrameHeader.{FrameHeader}
use Rattle.play.specs.Decisions.{reads}
use Rattle.play.proofs.Deciding.{head_end, head_long, head_on}
use Rattle.play.proofs.head.Goals as goal

pub returns-then-count_within-n : goal.returns-then-count_within-n
returns-then-count_within-n c = let a = c.args in head_long a.run a.bytes.now _ c.count_within.ensures c.if-count_within-n.true

pub returns-then-n-lt-QOA_HEADER_SIZE : goal.returns-then-n-lt-QOA_HEADER_SIZE
returns-then-n-lt-QOA_HEADER_SIZE c = let a = c.args in c.finish.ensures ∙ head_end a.run a.bytes.now _ c.count_within.ensures c.if-count_within-n.false c.if-n-lt-QOA_HEADER_SIZE.true

pub returns : goal.returns
returns c = let a = c.args in ap reads c.within.ensures ∙ head_on a.run a.bytes.now _ c.count_within.ensures c.if-count_within-n.false _ c.if-n-lt-QOA_HEADER_SIZE.false (c.state_end-end.ensures ∙ ap (λ (h : FrameHeader). state_end h.channels) c.read_header-h.ensures)
