-- `decoder::items::pending_item` meets its contract. Assumes nothing.
use borrow.Author.Rules.{rules}
use mathlib.Core.Path.{refl}
use lib.IntN.{pos}
use lib.ListN.{get_or}
use mir.Syntax.{w16}
use Rattle.wrap.proofs.Integers.{returned}
use Rattle.decoder.proofs.ItemLaws.{pending_turn}
use Rattle.decoder.proofs.items.pending_item.Goals as goal

pub returns : goal.returns
returns c bs =
    let d = c.args.d in
    let sample = get_or d.pending d.next (pos 0) in
    pending_turn bs d c.after_pending.result _ (returned w16 sample (search rules) refl) c.requires.0 (c.after_pending.ensures bs)
