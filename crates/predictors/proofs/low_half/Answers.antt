-- `predictors::low_half` meets its contract: the low 16 of the low 32 bits. Assumes nothing.
use mathlib.Core.Path.{◌∙◌, ap}
use Prim.Native.Nat.{ℕ, ◌%◌, ◌^◌}
use lib.Bits.{and_mask}
use mir.Facts.{to_z-of_z}
use Rattle.wrap.specs.Wrap.{low16}
use Rattle.predictors.proofs.Predictors.{low_low}
use Rattle.predictors.proofs.low_half.Goals as goal

pub returns : goal.returns
returns c = and_mask c.pattern.result 16 ∙ ap (λ (n : ℕ). n % 2 ^ 16) c.pattern.ensures ∙ low_low _ ∙ ap low16 (to_z-of_z c.ranges.x)
