-- The contract settles its call: what an answer tells is one-to-one, and any two answers that it permits are equal, with states of one view. Assumes nothing.
use mathlib.Core.Path.{◌≡◌}
use mathlib.Core.List.{List}
use Prim.Native.Nat.{ℕ}
use Rattle.state.specs.View.{view}
use Rattle.state.specs.declared.QoaDecoder.{QoaDecoder}
use Rattle.into.proofs.Settled.{call_settled}
use Rattle.decoder.specs.Items.{ItemDone, item_after, item_of, item_rules}
use Rattle.refusal.specs.declared.Done.{Done}
use Rattle.refusal.specs.declared.Refusal.{Refusal}
use Rattle.decoder.specs.declared.QoaItem.{QoaItem}
use Rattle.std.specs.Prelude.{Option, Result}

pub next_item_settled : (bs : List ℕ) (d : QoaDecoder) (r s : Done (Result (Option QoaItem) Refusal) QoaDecoder) → ItemDone bs d r → ItemDone bs d s → (r.answer ≡ s.answer) × (view r.state ≡ view s.state)
next_item_settled bs d r s x y = call_settled (item_rules bs (view d)) (item_of bs (view d)) d (item_after bs (view d)) r s x y
