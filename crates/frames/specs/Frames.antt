-- Moving to the next frame. Assumes nothing.
use Rattle.std.specs.Prelude.{ℕ, ◌+◌, ◌*◌, Bool, true, not, cond, List, [], ◌∷◌, ltb, length, Option, Some, None, Result}
use Rattle.refusal.specs.Rules.{Rule, ◌gives◌}
use Rattle.word.specs.Table.{table}
use Rattle.format.specs.Format.{slices_of, state_end}
use Rattle.format.specs.Grammar.{tail_ok}
use Rattle.format.specs.Header.{header_at, left_at}
use Rattle.format.specs.Checks.{frame_rules}
use Rattle.format.specs.Predictor.{lms_at}
use Rattle.refusal.specs.declared.Done.{Done}
use Rattle.refusal.specs.declared.Refusal.{Refusal}
use Rattle.format.specs.declared.frame.FrameHeader.{FrameHeader}
use Rattle.format.specs.declared.checks.Kind.{Kind}
use Rattle.format.specs.declared.checks.Kind.TheVariants.{Any, Like}
use Rattle.state.specs.View.{View, channels_of, facts_in, moved_to, none_pending, view}
use Rattle.state.specs.States.{good_state}
use Rattle.state.specs.declared.QoaDecoder.{QoaDecoder}
use Rattle.into.specs.Left.{CallDone}
use Rattle.into.specs.Into.{groups_end, groups_lms}
use Rattle.state.specs.declared.FrameFacts.{FrameFacts}
use Rattle.state.specs.declared.ProcessingMode.{ProcessingMode}
use Rattle.state.specs.declared.ProcessingMode.TheVariants.{FixedSamples, Streaming}

-- ---- what remains of the current frame, decoded and dropped

unfoldable pub past_rest : List ℕ → View → View
past_rest bs v = let q = slices_of v.remaining in moved_to v v.frame (groups_end v q) 0 none_pending (groups_lms bs v q)

-- ---- the frame at the place

-- the frames that a decoder accepts: in fixed mode those like the first, in streaming mode any
abbrev pub kind_of : ProcessingMode → Kind
kind_of (FixedSamples total c rate) = Like (record { fixed = true; channels = c; rate = rate })
kind_of Streaming = Any

-- whether a frame was read: in fixed mode one was on opening, in streaming mode where the current frame has channels
abbrev pub read_in : ProcessingMode → ℕ → Bool
read_in (FixedSamples total c rate) channels = true
read_in Streaming channels = ltb 0 channels

abbrev pub frame_read : View → Bool
frame_read v = read_in v.mode (channels_of v)

-- under 8 bytes is the end, where that tail may be left; never fires while `tail_ok` accepts every end under 8 bytes
abbrev pub end_rules : View → ℕ → List Rule
end_rules v left = (not (tail_ok left (frame_read v)) gives 5) ∷ []

-- a frame is entered by its header and its predictor state
abbrev pub entry_rules : ProcessingMode → FrameHeader → ℕ → List Rule
entry_rules mode h left = frame_rules (kind_of mode) h (state_end h.channels) left

-- the rules at the place
unfoldable pub enter_rules : List ℕ → View → List Rule
enter_rules bs v =
    cond (ltb (left_at bs v.at) 8)
    (end_rules v (left_at bs v.at))
    (entry_rules v.mode (header_at bs v.at) (left_at bs v.at))

-- the state at the start of the frame at the place
unfoldable pub entered : List ℕ → View → View
entered bs v =
    let h = header_at bs v.at in
    moved_to v (facts_in h) (v.at + state_end h.channels) h.samples none_pending (table h.channels (λ j. lms_at bs (v.at + 8 + 16 * j)))

-- a frame, or none at the end
unfoldable pub found_at : List ℕ → View → Option FrameFacts
found_at bs v = cond (ltb (left_at bs v.at) 8) None (Some (facts_in (header_at bs v.at)))

unfoldable pub entered_or : List ℕ → View → View
entered_or bs v = cond (ltb (left_at bs v.at) 8) v (entered bs v)

-- ---- the call

-- 8 first; 5 where what remains is cut; then the next frame's
unfoldable pub next_rules : List ℕ → View → List Rule
next_rules bs v =
    (not (good_state v (length bs)) gives 8)
    ∷ (ltb (length bs) (groups_end v (slices_of v.remaining)) gives 5)
    ∷ enter_rules bs (past_rest bs v)

abbrev pub next_found : List ℕ → View → Option FrameFacts
next_found bs v = found_at bs (past_rest bs v)

abbrev pub next_after : List ℕ → View → View
next_after bs v = entered_or bs (past_rest bs v)

-- what the call promises: its answer and its state
abbrev pub NextDone : List ℕ → QoaDecoder → Done (Result (Option FrameFacts) Refusal) QoaDecoder → Type 0
NextDone bs d r = CallDone (next_rules bs (view d)) (next_found bs (view d)) d (next_after bs (view d)) r
