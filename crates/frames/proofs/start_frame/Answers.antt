-- `frames::start_frame` meets its contract. Assumes nothing.
use mathlib.Core.Path.{◌≡◌}
use native.Mathlib.Omega.{arith}
use lib.ListN.{length}
use Rattle.format.specs.Format.{max_channels, state_end}
use Rattle.frames.proofs.FrameLaws.{view_started}
use Rattle.into.proofs.Sound.{length_mapped}
use Rattle.frames.proofs.start_frame.Goals as goal
use Rattle.frames.proofs.start_frame.Goals.{Start}

long : (c : Start) → length c.args.d.lms ≡ max_channels
long c = search length_mapped

pub read_states-requires : goal.read_states-requires
unfolding state_end
read_states-requires c = (c.requires.1, omega (arith, c.requires))

pub returns : goal.returns
returns c v mode-is at-is =
    let args = c.args in
    rw (c.state_end.ensures, c.from.ensures, c.read_states.ensures)
    (view_started args.bytes.now args.d args.place args.h c.requires.0 (omega (arith, long (goal.at.returns c).Start, c.requires.1)) v mode-is at-is)
