-- What the parts of the code ask and answer. Assumes nothing.
use Rattle.std.specs.Prelude.{ℕ, List, Option, Result}
use Rattle.refusal.specs.declared.Done.{Done}
use Rattle.refusal.specs.declared.Refusal.{Refusal}
use Rattle.state.specs.View.{View}
use Rattle.state.specs.declared.FrameFacts.{FrameFacts}
use Rattle.state.specs.declared.QoaDecoder.{QoaDecoder}
use Rattle.into.specs.Left.{CallDone}
use Rattle.frames.specs.Frames.{enter_rules, entered_or, found_at}

-- what is found at the place of a view that the state d has come to: the answer by the rules there, and the state
abbrev pub EnterDone : List ℕ → QoaDecoder → View → Done (Result (Option FrameFacts) Refusal) QoaDecoder → Type 0
EnterDone bs d v r = CallDone (enter_rules bs v) (found_at bs v) d (entered_or bs v) r
