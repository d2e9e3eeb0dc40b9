-- `whole::held::decode_held` meets its contract. Assumes nothing.
use Prim.Native.Nat.{◌-◌}
use native.Mathlib.Omega.{arith}
use lib.ListN.{length, length-drop}
use Rattle.std.proofs.lemmas.List.{take_rest}
use Rattle.file.proofs.Frames.{frame_eight}
use Rattle.whole.proofs.Decoding.{HeldOn, decoded_end, decoded_more, held_on}
use Rattle.whole.proofs.held.decode_held.Goals as goal
use Rattle.whole.proofs.held.decode_held.Goals.{After-read_header-h}

-- the frame at the start of the rest
frame : (c : After-read_header-h) → HeldOn c.loop-rest.rest.now c.read_header-h.result (length c.loop-rest.out - c.loop-rest.done)
frame c = held_on _ _ _ c.read_header-h.ensures (omega arith) c.loop-rest.invariant.room

pub decode_frame-requires-clause-frame : goal.decode_frame-requires-clause-frame
decode_frame-requires-clause-frame c = let here = frame (goal.at.decode_frame-requires-clause-frame c).After-read_header-h in (c.read_header-h.ensures, here.few_channels, here.whole)

pub decode_frame-requires-clause-room : goal.decode_frame-requires-clause-room
decode_frame-requires-clause-room c = omega (arith, frame (goal.at.decode_frame-requires-clause-room c).After-read_header-h, c.loop-rest.invariant)

pub slice_bounds-rest-count : goal.slice_bounds-rest-count
slice_bounds-rest-count c = rw c.length.ensures (frame (goal.at.slice_bounds-rest-count c).After-read_header-h).whole

pub slice_bounds-rest-start : goal.slice_bounds-rest-start
slice_bounds-rest-start c = rw c.length.ensures (frame (goal.at.slice_bounds-rest-start c).After-read_header-h).whole

pub loop-rest-smaller : goal.loop-rest-smaller
loop-rest-smaller c =
    simp (take_rest, length-drop) (omega (arith, frame (goal.at.loop-rest-smaller c).After-read_header-h, c.length.ensures, frame_eight c.read_header-h.result))

pub loop-rest-preserved : goal.loop-rest-preserved
loop-rest-preserved c =
    rw (take_rest, c.length.ensures, c.sample_count-done.ensures.0, c.decode_frame.ensures)
    (decoded_more _ _ _ _ _ _ c.loop-rest.invariant (frame (goal.at.loop-rest-preserved c).After-read_header-h))

pub returns : goal.returns
returns c = decoded_end _ _ _ _ c.loop-rest.done c.loop-rest.invariant (omega arith)
