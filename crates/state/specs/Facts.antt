-- A decoder's facts. Assumes nothing.
use Rattle.std.specs.Prelude.{ℕ, not, [], ◌∷◌}
use Rattle.refusal.specs.Rules.{Answer, good, ◌gives◌, after}
use Rattle.format.specs.Facts.{facts_of}
use Rattle.format.specs.declared.facts.Facts.{Facts}
use Rattle.state.specs.View.{View}
use Rattle.state.specs.States.{good_state}
use Rattle.state.specs.declared.FrameFacts.{FrameFacts}
use Rattle.state.specs.declared.ProcessingMode.{ProcessingMode}
use Rattle.state.specs.declared.ProcessingMode.TheVariants.{FixedSamples, Streaming}

-- fixed: the total, with the first frame's channels and rate; streaming: no total, with the current frame's
unfoldable pub facts_for : ProcessingMode → FrameFacts → Facts
facts_for (FixedSamples total c rate) frame = facts_of total c rate
facts_for Streaming frame = facts_of 0 frame.channels frame.rate

-- 8 first; else the facts
unfoldable pub facts_answer : View → ℕ → Answer Facts
facts_answer v bytes = after ((not (good_state v bytes) gives 8) ∷ []) (good (facts_for v.mode v.frame))
