-- `qoa::linked::qoa_encode_need` meets its contract. Assumes nothing.
use mathlib.Core.Path.{sym, ◌∙◌}
use native.Mathlib.Omega.{arith}
use Rattle.codes.proofs.Maps.{told_small}
use Rattle.oneshot.proofs.Small.{told_need_small}
use Rattle.qoa.proofs.linked.qoa_encode_need.Goals as goal

pub told-requires : goal.told-requires
told-requires c = told_small _ (λ n e. let small = told_need_small c.args.channels c.args.total n (omega arith) (sym c.encode_need.ensures ∙ e) in omega arith)
