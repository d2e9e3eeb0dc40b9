-- `scale::dequant_tab` makes a table that keeps its invariant: the table is computed and compared.
-- Assumes nothing.
use Rattle.std.proofs.Common.{refl}
use Rattle.scale.specs.Tables.{factors, row_for}
use Rattle.scale.specs.Parts.{dequant_tab}
use Rattle.scale.proofs.dequant_tab.Goals as goal

pub invariant_of-result : goal.invariant_of-result
unfolding dequant_tab row_for factors
invariant_of-result c = record { whole = refl }
