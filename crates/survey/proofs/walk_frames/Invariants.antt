-- `survey::walk_frames` meets its contract. The invariant: the answer for all frames is that for the frames of the rest, with what was counted
-- before them. Assumes nothing.
use Prim.Native.Nat.{◌+◌, ◌≤◌}
use mathlib.Core.Path.{◌≡◌}
use lib.ListN.{length}
use Rattle.survey.specs.Parts.{fit_after, reader_for}
use Rattle.survey.proofs.walk_frames.Given as goal

abbrev pub invariant-loop-rest : goal.invariant-loop-rest
invariant-loop-rest l =
    record { capped : l.need ≤ l.room + 1; same : fit_after (reader_for l.kind) l.room 0 l.bytes ≡ fit_after (reader_for l.kind) l.room l.need l.rest }

abbrev pub decreases-loop-rest : goal.decreases-loop-rest
decreases-loop-rest l = length l.rest
