-- `into::groups_for` meets its contract. Assumes nothing.
use mathlib.Core.Path.{sym, ◌∙◌}
use Prim.Native.Nat.{ℕ, ◌*◌, ◌<◌}
use native.Mathlib.Nat.{div-eq_of_lt-le}
use native.Mathlib.Omega.{arith}
use Rattle.std.proofs.lemmas.Grind.{div_ceil_times}
use Rattle.into.specs.Into.{groups_for}
use Rattle.into.proofs.groups_for.Goals as goal

pub returns : goal.returns
unfolding groups_for
returns c =
    let group : ℕ = 20 * c.args.channels in
    let some : 0 < group = omega arith in
    let b = div_ceil_times c.args.samples group some in
    c.div_ceil.ensures ∙ sym (div-eq_of_lt-le group (omega (arith, b)) (omega (arith, b)))
