-- `whole::held::decode_frame` meets its contract. Assumes nothing.
use borrow.Author.Rules.{rules}
use Prim.Native.Nat.{◌*◌}
use mathlib.Core.Path.{sym, ◌∙◌}
use native.Mathlib.Omega.{arith}
use lib.Dec.{lit≤}
use Rattle.lms.proofs.Bounds.{within_more}
use Rattle.refusal.proofs.Lents.{over_written}
use Rattle.format.specs.Format.{frame_length, state_end}
use Rattle.format.proofs.Headers.{frame_long}
use Rattle.groups.specs.Groups.{groups_at}
use Rattle.file.proofs.Places.{StatesAt, frame_here, states_read, states_within}
use Rattle.whole.proofs.held.decode_frame.Goals as goal
use Rattle.whole.proofs.held.decode_frame.Goals.{After-read_states-states}

pub read_states-states-requires : goal.read_states-states-requires
unfolding state_end
read_states-states-requires c =
    let h = c.args.h in
    (omega arith, omega (arith, frame_long h.channels h.samples))

-- the states are those that stand there
there : (c : After-read_states-states) → let args = c.args in StatesAt args.bytes.now args.h.channels c.read_states-states.result
there c = rw c.read_states-states.ensures (states_read c.args.bytes.now c.args.h.channels _ (omega arith))

pub decode_groups-requires : goal.decode_groups-requires
unfolding frame_length
decode_groups-requires c =
    let h = c.args.h in
    record { small = omega arith; whole = omega arith; room = c.requires.room; weights = λ j l. within_more (lit≤ tt) (states_within _ h.channels c.read_states-states.result (λ i. search rules) (there (goal.at.decode_groups-requires c).After-read_states-states) j l) }

pub returns : goal.returns
returns c =
    let h = c.args.h in
    let b = c.args.bytes.now in
    let out = c.args.out.now in
    let states = c.read_states-states.result in
    let heard = frame_here b h states (there (goal.at.returns c).After-read_states-states) (sym c.requires.frame.0) c.requires.frame.2 in
    rw heard (rw c.state_end-place.ensures at c.decode_groups.ensures.samples
    ∙ over_written out (groups_at b (state_end h.channels) h.channels states) c.args.start (h.samples * h.channels) c.requires.room)
