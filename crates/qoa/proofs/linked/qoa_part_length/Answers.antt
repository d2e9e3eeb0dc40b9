-- `qoa::linked::qoa_part_length` meets its contract. Assumes nothing.
use mathlib.Core.Path.{sym, ◌∙◌}
use native.Mathlib.Omega.{arith}
use Rattle.codes.proofs.Maps.{told_small}
use Rattle.format.proofs.Parts.{part_within}
use Rattle.qoa.proofs.linked.qoa_part_length.Goals as goal

pub told-requires : goal.told-requires
told-requires c = told_small _ (λ n e. let fits = part_within c.args.bytes.now _ n (sym c.part_length.ensures ∙ e) in omega arith)
