-- `scale::QuickTables::quick_row` makes a row that keeps its invariant.
-- Assumes nothing.
use Rattle.std.proofs.Common.{List, [], get_or, ℤ, ap, ◌∙◌}
use Rattle.scale.proofs.QuickRows.{quick_tab_row}
use Rattle.scale.proofs.quick.QuickTables.quick_row.Goals as goal

pub invariant_of-result : goal.invariant_of-result
invariant_of-result c = record {
  numbered = c.requires;
  own = ap (λ (t : List (List ℤ)). get_or t c.args.sf []) c.args.self.now.quick_rows ∙ quick_tab_row c.args.sf c.requires;
}
