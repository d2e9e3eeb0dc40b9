-- `lms::wrapped_dot` meets its contract: the order of the sums does not matter.
-- Assumes nothing.
use Rattle.std.proofs.Common.{ℤ, ◌+ℤ◌, ◌*ℤ◌, ap, ◌∙◌, ap₂, to_z-of_z, w32, SFits}
use lib.IntN.{+ℤ_assoc}
use Rattle.wrap.specs.Wrap.{wrap32}
use Rattle.wrap.proofs.Elements.{element}
use Rattle.wrap.proofs.Integers.{fits_of}
use Rattle.lms.specs.Predictor.{at, dot}
use Rattle.lms.specs.Parts.{older_dot}
use Rattle.lms.proofs.wrapped_dot.Goals as goal

pub returns : goal.returns
unfolding dot older_dot
returns c =
    let a = c.args.a in
    let b = c.args.b in
    let fa : SFits w32 (at a 3) = search element in
    let fb : SFits w32 (at b 3) = search element in
    let newest = ap₂ (λ (x y : ℤ). older_dot a b +ℤ x *ℤ y) (to_z-of_z fa) (to_z-of_z fb) in
    to_z-of_z (fits_of w32 c.add_newest.result c.add_newest.type_inv) ∙ c.add_newest.ensures (older_dot a b) c.older_dot.ensures
    ∙ ap wrap32 (newest ∙ +ℤ_assoc (at a 0 *ℤ at b 0 +ℤ at a 1 *ℤ at b 1) (at a 2 *ℤ at b 2) (at a 3 *ℤ at b 3))
