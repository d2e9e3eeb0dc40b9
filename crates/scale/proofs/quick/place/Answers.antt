-- `scale::place` meets its contract: the machine's place of the sum is that of the number that its bits read.
-- Assumes nothing.
use Rattle.std.proofs.Common.{◌≡◌, refl, ℕ, ◌+◌, ◌%◌, ◌^◌, ℤ, pos, ◌+ℤ◌, ◌*ℤ◌, sym, ap, ◌∙◌, ap₂, lit<, arith, to_z-of_z, w32, to_z}
use lib.Signed.{shr_z}
use Rattle.wrap.specs.Wrap.{low32, wrap32}
use Rattle.wrap.proofs.Modulo.{add_low, modulo_pos}
use Rattle.scale.specs.Division.{shifted}
use Rattle.scale.specs.Parts.{quick_place}
use Rattle.scale.proofs.QuickRows.{place_of_lem}
use Rattle.scale.proofs.quick.place.Goals as goal
use Rattle.scale.proofs.quick.place.Goals.{After-wrapping_mul-product}

-- the bits of the sum
sum_is : (c : After-wrapping_mul-product) → (c.wrapping_mul-product.result + 32768) % 2 ^ 32 ≡ low32 (c.args.v *ℤ c.args.reciprocal +ℤ pos 32768)
sum_is c =
    let product = c.wrapping_mul-product.ensures ∙ ap₂ (λ (x y : ℤ). low32 (x *ℤ y)) (to_z-of_z c.ranges.v) (to_z-of_z c.ranges.reciprocal) in
    add_low 0xffff_ffff (c.args.v *ℤ c.args.reciprocal) (pos 32768) product (sym (modulo_pos 0xffff_ffff 32768 (lit< tt))) refl

pub returns : goal.returns
unfolding shifted
returns c k e =
    let sum = (c.wrapping_mul-product.result + 32768) % 2 ^ 32 in
    let v = c.args.v in
    c.min.ensures
    ∙ place_of_lem sum (omega arith)
    ∙ ap (λ (u : ℕ). quick_place (shr_z (to_z w32 u) (2 ^ 16))) (sum_is (goal.at.returns c).After-wrapping_mul-product)
    ∙ ap (λ (y : ℤ). quick_place (shr_z (wrap32 (v *ℤ y +ℤ pos 32768)) (2 ^ 16))) e
