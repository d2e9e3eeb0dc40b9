-- The item step: pending samples before all else, then the first header, the samples of the frame, and the next frame. Assumes nothing.
use Rattle.std.specs.Prelude.{ℕ, not, cond, List, [], ◌∷◌, ltb, length, Option, Some, None, Result}
use Rattle.refusal.specs.Rules.{Rule, ◌gives◌}
use Rattle.refusal.specs.declared.Done.{Done}
use Rattle.refusal.specs.declared.Refusal.{Refusal}
use Rattle.state.specs.View.{View, moved_to, none_pending, view, waiting, flagged}
use Rattle.state.specs.States.{good_state}
use Rattle.state.specs.declared.QoaDecoder.{QoaDecoder}
use Rattle.into.specs.Left.{CallDone}
use Rattle.into.specs.Into.{coming_at, groups_end, taken_from}
use Rattle.frames.specs.Frames.{enter_rules, entered_or, found_at}
use Rattle.state.specs.declared.FrameFacts.{FrameFacts}
use Rattle.decoder.specs.declared.QoaItem.{QoaItem}
use Rattle.decoder.specs.declared.QoaItem.TheVariants.{Header, Sample}

-- which of the four it is
pub data Turn : Type 0 where
  from_pending first_header from_group from_next : Turn

unfoldable pub turn_of : View → Turn
turn_of v = cond (ltb 0 (waiting v)) from_pending (cond (not v.given) first_header (cond (ltb 0 v.remaining) from_group from_next))

-- a state with no sample pending
abbrev pub settled : View → View
settled v = moved_to v v.frame v.at v.remaining none_pending v.lms

-- 5 where the group that the step needs is cut; the next frame's refusals
abbrev pub turn_rules : Turn → List ℕ → View → List Rule
turn_rules from_pending bs v = []
turn_rules first_header bs v = []
turn_rules from_group bs v = (ltb (length bs) (groups_end v 1) gives 5) ∷ []
turn_rules from_next bs v = enter_rules bs v

-- the item in what is found
abbrev pub item_in : Option FrameFacts → Option QoaItem
item_in (Some f) = Some (Header f)
item_in None = None

-- what is given, or none at the end
abbrev pub turn_item : Turn → List ℕ → View → Option QoaItem
turn_item from_pending bs v = Some (Sample (coming_at bs v 0))
turn_item first_header bs v = Some (Header v.frame)
turn_item from_group bs v = Some (Sample (coming_at bs v 0))
turn_item from_next bs v = item_in (found_at bs v)

abbrev pub turn_after : Turn → List ℕ → View → View
turn_after from_pending bs v = flagged v.given (taken_from bs v 0 1)
turn_after first_header bs v = settled v
turn_after from_group bs v = taken_from bs v 1 1
turn_after from_next bs v = entered_or bs (settled v)

-- ---- the call

unfoldable pub item_rules : List ℕ → View → List Rule
item_rules bs v = (not (good_state v (length bs)) gives 8) ∷ turn_rules (turn_of v) bs v

unfoldable pub item_of : List ℕ → View → Option QoaItem
item_of bs v = turn_item (turn_of v) bs v

unfoldable pub item_after : List ℕ → View → View
item_after bs v = turn_after (turn_of v) bs v

-- what the call promises: its answer and its state
abbrev pub ItemDone : List ℕ → QoaDecoder → Done (Result (Option QoaItem) Refusal) QoaDecoder → Type 0
ItemDone bs d r = CallDone (item_rules bs (view d)) (item_of bs (view d)) d (item_after bs (view d)) r
