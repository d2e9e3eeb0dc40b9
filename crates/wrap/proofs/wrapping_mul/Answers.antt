-- `wrap::wrapping_mul` meets its contract: the low bits of a product are those of the product of the low bits.
-- Assumes nothing.
use mathlib.Core.Path.{ap, ap₂, sym, ◌∙◌}
use Prim.Native.Nat.{ℕ, ◌*◌, ◌%◌, ◌^◌}
use mir.Facts.{to_z-of_z}
use Rattle.wrap.specs.Wrap.{low32}
use Rattle.wrap.proofs.Modulo.{modulo_mul}
use Rattle.wrap.proofs.wrapping_mul.Goals as goal

pub returns : goal.returns
returns c =
    ap₂ (λ (x y : ℕ). (x * y) % 2 ^ 32) (c.pattern.ensures ∙ ap low32 (to_z-of_z c.ranges.a)) (c.pattern-2.ensures ∙ ap low32 (to_z-of_z c.ranges.b))
    ∙ sym (modulo_mul 0xffff_ffff c.args.a c.args.b)
