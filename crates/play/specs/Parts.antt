-- What the parts of the code ask and answer. Assumes nothing.
use Rattle.std.specs.Prelude.{ℕ, ◌≤◌}
use Rattle.format.specs.Format.{most_bytes}
use Rattle.play.specs.Played.{most_held}
use Rattle.play.specs.declared.Run.{Run}
use Rattle.play.specs.declared.Stage.{Stage}
use Rattle.play.specs.declared.Stage.TheVariants.{FileHead, FrameHead, FrameState, FrameBody}

-- the bytes of a frame's header that a stage has
abbrev pub header_bytes : Stage → ℕ
header_bytes FileHead = 0
header_bytes FrameHead = 0
header_bytes FrameState = 8
header_bytes FrameBody = 8

-- a run as the decisions hand it out
pub record GoodRun (run : Run) : Type 0 where
  pub few_read : run.read ≤ most_bytes
  pub in_order : run.held ≤ run.want
  pub fits : run.want ≤ most_held
  pub header_held : header_bytes run.stage ≤ run.held
