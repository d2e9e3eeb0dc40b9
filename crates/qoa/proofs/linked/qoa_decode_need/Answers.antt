-- `qoa::linked::qoa_decode_need` meets its contract. Assumes nothing.
use mathlib.Core.Path.{◌≡◌, ap, sym, ◌∙◌}
use native.Mathlib.Omega.{arith}
use Rattle.std.proofs.Common.{rules}
use Rattle.refusal.specs.Refusals.{told}
use Rattle.codes.proofs.Maps.{map_small}
use Rattle.qoa.proofs.Fitting.{need_fits}
use Rattle.qoa.proofs.linked.qoa_decode_need.Goals as goal

pub told-requires : goal.told-requires
told-requires c = map_small _ c.decode_need.result c.map.result (λ x y e k.
    let fits = need_fits c.args.bytes.now x (sym c.decode_need.ensures ∙ ap told e) in
    let same : y ≡ x.count = search rules in
    omega arith) c.map.ensures.cases
