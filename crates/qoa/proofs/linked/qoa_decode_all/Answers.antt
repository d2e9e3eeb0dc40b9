-- `qoa::linked::qoa_decode_all` meets its contract. Assumes nothing.
use mathlib.Core.Path.{◌≡◌, ap, sym, ◌∙◌}
use native.Mathlib.Omega.{arith}
use lib.ListN.{length}
use Rattle.std.proofs.Common.{rules}
use Rattle.refusal.specs.Refusals.{told}
use Rattle.codes.proofs.Maps.{map_small}
use Rattle.qoa.proofs.Fitting.{decoded_fits}
use Rattle.qoa.proofs.linked.qoa_decode_all.Goals as goal

pub told-requires : goal.told-requires
told-requires c = map_small _ c.decode_all.result c.map.result (λ x y e k.
    let fits = decoded_fits (length c.args.out.now) c.args.bytes.now x (sym c.decode_all.ensures.answer ∙ ap told e) in
    let same : y ≡ x.count = search rules in
    omega arith) c.map.ensures.cases
