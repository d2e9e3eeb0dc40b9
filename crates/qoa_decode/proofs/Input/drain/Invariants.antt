-- `qoa_decode::Input::drain`: each turn that goes on reads at least one byte.
use Rattle.std.proofs.Common.{◌-◌}
use Rattle.qoa_decode.proofs.Input.drain.Given as goal

-- 2 ^ 32 is past the most bytes of a file, where the loop stops
abbrev pub decreases-loop-self : goal.decreases-loop-self
decreases-loop-self l = 4294967296 - l.self.read
