-- What the parts of the code ask and answer. Assumes nothing.
use Rattle.std.specs.Prelude.{ℕ, List, Option, Result}
use Rattle.refusal.specs.declared.Done.{Done}
use Rattle.refusal.specs.declared.Refusal.{Refusal}
use Rattle.state.specs.View.{view}
use Rattle.state.specs.declared.QoaDecoder.{QoaDecoder}
use Rattle.into.specs.Left.{CallDone}
use Rattle.decoder.specs.Items.{Turn, turn_after, turn_item, turn_rules}
use Rattle.decoder.specs.declared.QoaItem.{QoaItem}

-- what one of the four turns promises, of a state whose turn it is
abbrev pub TurnDone : Turn → List ℕ → QoaDecoder → Done (Result (Option QoaItem) Refusal) QoaDecoder → Type 0
TurnDone turn bs d r = CallDone (turn_rules turn bs (view d)) (turn_item turn bs (view d)) d (turn_after turn bs (view d)) r
