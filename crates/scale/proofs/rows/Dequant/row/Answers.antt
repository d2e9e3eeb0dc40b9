-- `scale::Dequant::row` makes a row that keeps its invariant: the table's row is that of its scale factor.
-- Assumes nothing.
use Rattle.std.proofs.Common.{List, [], get_or, ℤ, ap, ◌∙◌}
use Rattle.scale.proofs.Rules.{tab_row}
use Rattle.scale.proofs.rows.Dequant.row.Goals as goal

pub invariant_of-result : goal.invariant_of-result
invariant_of-result c = record {
  numbered = c.requires;
  own = ap (λ (t : List (List ℤ)). get_or t c.args.sf []) c.args.self.now.whole ∙ tab_row c.args.sf c.requires;
}
