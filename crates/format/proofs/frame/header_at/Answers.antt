-- `format::frame::header_at` meets its contract. Assumes nothing.
use mathlib.Core.Path.{ap, sym, ◌∙◌}
use native.Mathlib.Omega.{arith}
use Rattle.refusal.specs.Rules.{Answer, good}
use Rattle.refusal.proofs.Told.{exit_told}
use Rattle.format.specs.declared.frame.FrameHeader.{FrameHeader}
use Rattle.format.proofs.Headers.{short_header, refused_header, passed_header}
use Rattle.format.proofs.frame.header_at.Goals as goal

pub returns-then-saturating_sub-lt-QOA_HEADER_SIZE : goal.returns-then-saturating_sub-lt-QOA_HEADER_SIZE
returns-then-saturating_sub-lt-QOA_HEADER_SIZE c = sym (short_header _ _ (omega arith))

pub returns-in_err-check_header : goal.returns-in_err-check_header
returns-in_err-check_header c =
    exit_told _ _ c.from_residual.ensures.1 ∙ sym (refused_header _ _ _ (omega arith) (rw c.read_header-h.ensures at (sym c.in_err-check_header.ensures)))

pub returns : goal.returns
returns c =
    ap {B = Answer FrameHeader} good c.read_header-h.ensures ∙ sym (passed_header _ _ (omega arith) (rw c.read_header-h.ensures at (sym c.in_ok-check_header.ensures)))
