-- Opening a decoder. Assumes nothing.
use Rattle.std.specs.Prelude.{ℕ, ◌+◌, ◌*◌, false, cond, List, [], ◌∷◌, ◌++◌, ◌≡◌, ltb, pos, replicate}
use mathlib.Core.Option.{Option, none, some}
use Rattle.refusal.specs.Rules.{Rule, ◌gives◌}
use Rattle.word.specs.Table.{table}
use Rattle.lms.specs.Predictor.{zero_lms}
use Rattle.format.specs.Format.{max_channels, pending_len, state_end}
use Rattle.format.specs.FileHeader.{file_rules, is_fixed, total_of}
use Rattle.format.specs.Header.{header_at, left_at}
use Rattle.format.specs.Checks.{frame_rules}
use Rattle.format.specs.Predictor.{lms_at}
use Rattle.format.specs.declared.checks.Kind.TheVariants.{Any}
use Rattle.state.specs.View.{View, facts_in, no_frame, none_pending, view, view_of}
use Rattle.state.specs.declared.QoaDecoder.{QoaDecoder}
use Rattle.state.specs.declared.ProcessingMode.TheVariants.{FixedSamples, Streaming}

-- the first frame, at byte 8: fewer than 8 bytes are 2; 3, 6; 5 where the predictor state is cut
abbrev pub first_rules : List ℕ → List Rule
first_rules bs =
    (ltb (left_at bs 8) 8 gives 2)
    ∷ frame_rules Any (header_at bs 8) (state_end (header_at bs 8).channels) (left_at bs 8)

-- the file header's refusals; in fixed mode the first frame's
unfoldable pub open_rules : List ℕ → List Rule
open_rules bs = file_rules bs ++ cond (is_fixed (total_of bs)) (first_rules bs) []

-- fixed: at the first frame's slices. Streaming: no frame was read
unfoldable pub opened_fixed : List ℕ → View
opened_fixed bs =
    let h = header_at bs 8 in
    view_of (FixedSamples (total_of bs) h.channels h.rate) false (facts_in h) (8 + state_end h.channels) h.samples none_pending (table h.channels (λ j. lms_at bs (16 + 16 * j)))

unfoldable pub opened_stream : View
opened_stream = view_of Streaming false no_frame 8 0 none_pending []

unfoldable pub opened_at : List ℕ → View
opened_at bs = cond (is_fixed (total_of bs)) (opened_fixed bs) opened_stream

-- the state of a refusal: all zero
unfoldable pub zero_state : QoaDecoder
zero_state = record {
  mode = Streaming;
  at = 0;
  frame = no_frame;
  remaining = 0;
  next = 0;
  end = 0;
  given = false;
  lms = replicate max_channels zero_lms;
  pending = replicate pending_len (pos 0);
}

-- the state that is handed back
abbrev pub OpenLeaves : Option ℕ → List ℕ → QoaDecoder → Type 0
OpenLeaves none bs d = view d ≡ opened_at bs
OpenLeaves (some n) bs d = d ≡ zero_state
