-- `scale::quick_tables` makes tables that keep their invariant: the reciprocals and the codes are computed and compared.
-- Assumes nothing.
use Rattle.std.proofs.Common.{refl}
use Rattle.scale.specs.Tables.{factors}
use Rattle.scale.specs.Parts.{quick_codes, reciprocal_tab}
use Rattle.scale.proofs.quick.quick_tables.Goals as goal

pub quick_tab-quick-requires : goal.quick_tab-quick-requires
unfolding quick_codes
quick_tab-quick-requires c = refl

pub invariant_of-coding : goal.invariant_of-coding
unfolding quick_codes reciprocal_tab factors
invariant_of-coding c = record { all_reciprocals = refl; all_codes = refl }
