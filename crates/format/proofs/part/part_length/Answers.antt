-- `format::part::part_length` meets its contract: the part's answer follows from the header's. Assumes nothing.
use mathlib.Core.Path.{ap, sym, ◌∙◌}
use Prim.Native.Nat.{ℕ}
use native.Mathlib.Omega.{arith}
use Rattle.refusal.specs.Rules.{Answer, good}
use Rattle.refusal.proofs.Told.{exit_told}
use Rattle.format.proofs.Parts.{refused_part, cut_part, whole_part}
use Rattle.format.proofs.part.part_length.Goals as goal

pub returns-in_err-h : goal.returns-in_err-h
returns-in_err-h c = exit_told _ _ c.from_residual.ensures.1 ∙ sym (refused_part _ _ _ (sym c.in_err-h.ensures))

pub returns-then-saturating_sub-n : goal.returns-then-saturating_sub-n
returns-then-saturating_sub-n c = sym (cut_part _ _ c.in_ok-h.h (sym c.in_ok-h.ensures) (omega arith))

pub returns : goal.returns
returns c = ap {B = Answer ℕ} good c.length-n.ensures ∙ sym (whole_part _ _ c.in_ok-h.h (sym c.in_ok-h.ensures) (omega arith))
