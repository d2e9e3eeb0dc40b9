-- `scale::quick_tab` meets its contract. The invariant: the rows below `sf` are in place.
-- Assumes nothing.
use Rattle.std.proofs.Common.{◌<◌, [], sym, ◌∙◌, arith, ext_get_or}
use Rattle.scale.specs.Parts.{quick_tab}
use Rattle.scale.proofs.QuickRows.{quick_tab_length, quick_tab_row}
use Rattle.scale.proofs.quick.quick_tab.Goals as goal

pub returns : goal.returns
returns c =
    let o = c.loop-sf in
    ext_get_or [] o.quick quick_tab (o.invariant.long ∙ sym quick_tab_length) (λ k h. let small : k < 16 = omega arith in o.invariant.placed k (omega arith) ∙ sym (quick_tab_row k small))
