-- `search::order::next_key` meets its contract. The invariant: `least` is the next of the keys so far.
-- Assumes nothing.
use mathlib.Core.Path.{refl, sym, ◌∙◌}
use Rattle.search.specs.Parts.{next_key}
use Rattle.search.proofs.Keys.{next_lower, next_not_lower, next_below}
use Rattle.search.proofs.order.next_key.Goals as goal
use Rattle.search.proofs.order.next_key.Goals.{then-from-key+then-key-least, else-from-key, else-from-key-via-then-from-key+else-key-least, else-from-key-via-else-from-key}

pub loop-key-init : goal.loop-key-init
unfolding next_key
loop-key-init c = refl

pub loop-key-preserved : goal.loop-key-preserved
loop-key-preserved c =
    let keys = c.args.keys.now in
    let from = c.args.from in
    let o = c.loop-key in
    elim c.if-from-key.branch [
      | then-from-key+then-key-least w ↦ w.least-is ∙ sym (next_lower keys from o.key-index w.if-from-key.true (rw o.invariant at w.if-key-least.true))
      | else-from-key w ↦ w.least-is ∙ o.invariant ∙ elim w.else-from-key.branch [
        | else-from-key-via-then-from-key+else-key-least w' ↦ sym (next_not_lower keys from o.key-index w'.if-from-key.true (rw o.invariant at w'.if-key-least.false))
        | else-from-key-via-else-from-key w' ↦ sym (next_below keys from o.key-index w'.if-from-key.false)
      ]
    ]
