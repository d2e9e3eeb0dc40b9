-- `replay::Session::split`: each turn passes at least one byte.
use Rattle.std.proofs.Common.{length}
use Rattle.replay.proofs.Session.split.Given as goal

abbrev pub decreases-loop-end : goal.decreases-loop-end
decreases-loop-end l = length l.rest
