-- `lms::older_dot` meets its contract. The low bits of the products and of their sums are those of the integers.
-- Assumes nothing.
use Rattle.std.proofs.Common.{refl, ◌≡◌, ℕ, ℤ, ◌+ℤ◌, ◌*ℤ◌, ◌∙◌, ap₂, to_z-of_z, w32, SFits}
use Rattle.wrap.specs.Wrap.{low32}
use Rattle.wrap.proofs.Elements.{element}
use Rattle.wrap.proofs.Integers.{reread}
use Rattle.wrap.proofs.Modulo.{add_low}
use Rattle.lms.specs.Predictor.{at}
use Rattle.lms.specs.Parts.{older_dot}
use Rattle.lms.proofs.older_dot.Goals as goal

-- the machine multiplies what it reads back from the elements' bits, which are the elements
product : {x y : ℤ} → SFits w32 x → SFits w32 y → low32 (reread w32 x *ℤ reread w32 y) ≡ low32 (x *ℤ y)
product fx fy = ap₂ (λ (x y : ℤ). low32 (x *ℤ y)) (to_z-of_z fx) (to_z-of_z fy)

pub returns : goal.returns
unfolding older_dot
returns c =
    let a = c.args.a in
    let b = c.args.b in
    let fa : (i : ℕ) → SFits w32 (at a i) = λ i. search element in
    let fb : (i : ℕ) → SFits w32 (at b i) = λ i. search element in
    let x0 = at a 0 *ℤ at b 0 in
    let x1 = at a 1 *ℤ at b 1 in
    let two = add_low 0xffff_ffff x0 x1 (c.wrapping_mul-p0.ensures ∙ product (fa 0) (fb 0)) (c.wrapping_mul-p1.ensures ∙ product (fa 1) (fb 1)) refl in
    add_low 0xffff_ffff (x0 +ℤ x1) (at a 2 *ℤ at b 2) two (c.wrapping_mul-p2.ensures ∙ product (fa 2) (fb 2)) refl
