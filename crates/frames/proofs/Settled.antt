-- The contract settles its call: what an answer tells is one-to-one, and any two answers that it permits are equal, with states of one view. Assumes nothing.
use mathlib.Core.Path.{◌≡◌}
use mathlib.Core.List.{List}
use Prim.Native.Nat.{ℕ}
use Rattle.state.specs.View.{view}
use Rattle.state.specs.declared.QoaDecoder.{QoaDecoder}
use Rattle.into.proofs.Settled.{call_settled}
use Rattle.frames.specs.Frames.{NextDone, next_after, next_found, next_rules}
use Rattle.refusal.specs.declared.Done.{Done}
use Rattle.refusal.specs.declared.Refusal.{Refusal}
use Rattle.state.specs.declared.FrameFacts.{FrameFacts}
use Rattle.std.specs.Prelude.{Option, Result}

pub next_frame_settled : (bs : List ℕ) (d : QoaDecoder) (r s : Done (Result (Option FrameFacts) Refusal) QoaDecoder) → NextDone bs d r → NextDone bs d s → (r.answer ≡ s.answer) × (view r.state ≡ view s.state)
next_frame_settled bs d r s x y = call_settled (next_rules bs (view d)) (next_found bs (view d)) d (next_after bs (view d)) r s x y
