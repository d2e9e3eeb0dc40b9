-- `lines::answer::bits_of` meets its contract. Assumes nothing.
use mathlib.Core.Path.{refl, sym, ap, ◌∙◌}
use lib.Dec.{lit≤}
use mir.Syntax.{w64}
use mir.Val.{of_z}
use mir.Facts.{to_z-of_z}
use Rattle.wrap.proofs.Patterns.{low_bits}
use Rattle.lines.proofs.answer.bits_of.Goals as goal

pub returns : goal.returns
returns c = c.cast_unsigned.ensures ∙ ap (of_z w64) (to_z-of_z c.ranges.x) ∙ sym (low_bits w64 0xffff_ffff_ffff_ffff refl (lit≤ tt) c.args.x c.ranges.x)
