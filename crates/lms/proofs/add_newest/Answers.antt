-- `lms::add_newest` meets its contract: low bits of a sum are those of the integers, whatever number the other low bits are of.
-- Assumes nothing.
use Rattle.std.proofs.Common.{refl, ℤ, ◌*ℤ◌, ap, ◌∙◌, ap₂, to_z-of_z, w32, to_z}
use Rattle.wrap.specs.Wrap.{low32}
use Rattle.wrap.proofs.Integers.{fits_of}
use Rattle.wrap.proofs.Modulo.{add_low}
use Rattle.lms.proofs.add_newest.Goals as goal

pub returns : goal.returns
returns c z older-is =
    let product = c.wrapping_mul-newest.ensures ∙ ap₂ (λ (x y : ℤ). low32 (x *ℤ y)) (to_z-of_z c.ranges.a) (to_z-of_z c.ranges.b) in
    to_z-of_z (fits_of w32 c.signed.result c.signed.type_inv) ∙ c.signed.ensures
    ∙ ap (to_z w32) (add_low 0xffff_ffff z (c.args.a *ℤ c.args.b) older-is product refl)
