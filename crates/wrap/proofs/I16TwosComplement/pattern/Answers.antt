-- The low 16 bits of a number of 16 bits are its bits.
-- Assumes nothing.
use mathlib.Core.Path.{refl, sym, ap, ◌∙◌}
use lib.Dec.{lit≤}
use mir.Syntax.{w16}
use mir.Val.{of_z}
use mir.Facts.{to_z-of_z}
use Rattle.wrap.proofs.Patterns.{low_bits}
use Rattle.wrap.proofs.I16TwosComplement.pattern.Goals as goal

pub returns : goal.returns
returns c = c.cast_unsigned.ensures ∙ ap (of_z w16) (to_z-of_z c.ranges.self) ∙ sym (low_bits w16 0xffff refl (lit≤ tt) c.args.self c.ranges.self)
