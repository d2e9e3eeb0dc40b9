-- What a decoder's state means: pending entries outside next..end and unused channels are left out. Assumes nothing.
use Rattle.std.specs.Prelude.{ℕ, ◌+◌, ◌-◌, ◌*◌, Bool, true, List, [], ℤ, pos, get_or}
use Rattle.word.specs.Table.{table}
use Rattle.lms.specs.declared.QoaLms.{QoaLms}
use Rattle.format.specs.Predictor.{lms_of}
use Rattle.state.specs.declared.ProcessingMode.{ProcessingMode}
use Rattle.state.specs.declared.FrameFacts.{FrameFacts}
use Rattle.state.specs.declared.QoaDecoder.{QoaDecoder}
use Rattle.format.specs.declared.frame.FrameHeader.{FrameHeader}

pub record View : Type 0 where
  pub mode : ProcessingMode
  -- the place
  pub at : ℕ
  -- the current frame, and the samples per channel that remain of it
  pub frame : FrameFacts
  pub remaining : ℕ
  -- the range of the pending samples, and those samples
  pub next : ℕ
  pub end : ℕ
  pub pending : List ℤ
  -- whether the first header was given
  pub given : Bool
  -- the predictors of the used channels
  pub lms : List QoaLms

unfoldable pub view : QoaDecoder → View
view d = record {
  mode = d.mode;
  at = d.at;
  frame = d.frame;
  remaining = d.remaining;
  next = d.next;
  end = d.end;
  pending = table (d.end - d.next) (λ i. get_or d.pending (d.next + i) (pos 0));
  given = d.given;
  lms = table d.frame.channels (lms_of d.lms);
}

-- ---- what is left of the current frame

abbrev pub channels_of : View → ℕ
channels_of v = v.frame.channels

-- how many samples are pending, and how many there are with those to come
abbrev pub waiting : View → ℕ
waiting v = v.end - v.next

abbrev pub total : View → ℕ
total v = waiting v + v.remaining * channels_of v

-- ---- a state changed in some of its parts

-- the range of pending samples, and those samples
pub record Pending : Type 0 where
  pub next : ℕ
  pub end : ℕ
  pub samples : List ℤ

abbrev pub none_pending : Pending
none_pending = record { next = 0; end = 0; samples = [] }

-- a state by its parts: the mode, whether the first header was given, the frame, the place, what remains, what is pending, the predictors
abbrev pub view_of : ProcessingMode → Bool → FrameFacts → ℕ → ℕ → Pending → List QoaLms → View
view_of mode given frame at remaining pending lms = record {
  mode = mode;
  at = at;
  frame = frame;
  remaining = remaining;
  next = pending.next;
  end = pending.end;
  pending = pending.samples;
  given = given;
  lms = lms;
}

-- a state moved on: frame, place, what remains, what is pending and the predictors are other ones; the mode stays, and the first header counts as given
abbrev pub moved_to : View → FrameFacts → ℕ → ℕ → Pending → List QoaLms → View
moved_to v frame at remaining pending lms = view_of v.mode true frame at remaining pending lms

-- a state with the flag of the first header set so
abbrev pub flagged : Bool → View → View
flagged given v = view_of v.mode given v.frame v.at v.remaining (record { next = v.next; end = v.end; samples = v.pending }) v.lms

-- ---- frames

-- no frame was read
abbrev pub no_frame : FrameFacts
no_frame = record { channels = 0; rate = 0; samples = 0 }

-- what is told of a frame by its header
abbrev pub facts_in : FrameHeader → FrameFacts
facts_in h = record { channels = h.channels; rate = h.rate; samples = h.samples }
