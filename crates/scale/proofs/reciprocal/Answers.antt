-- `scale::reciprocal` meets its contract: the table is computed once, at all of its places.
-- Assumes nothing.
use Rattle.std.proofs.Common.{pos, ◌∙◌, to_z-of_z, w32, rules}
use Rattle.scale.specs.Tables.{reciprocal_of, factor_of, factors}
use Rattle.scale.proofs.Table.{entry}
use Rattle.scale.proofs.reciprocal.Goals as goal

pub returns : goal.returns
unfolding reciprocal_of factor_of factors
returns c = to_z-of_z {w = w32} (search rules) ∙ entry (λ k. pos (reciprocal_of k)) (pos 0) 16 c.args.sf c.requires
