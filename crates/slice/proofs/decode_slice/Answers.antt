-- `slice::decode_slice` meets its contract, by those of its two parts. Assumes nothing.
use native.Mathlib.Omega.{arith}
use Rattle.lms.proofs.Bounds.{within_more}
use Rattle.slice.proofs.Growth.{state_within}
use Rattle.slice.proofs.decode_slice.Goals as goal

pub hear_rest-requires : goal.hear_rest-requires
hear_rest-requires c =
    let within = state_within c.new-slice.result.word c.requires.small.0 c.args.count in
    record { small = (rw c.hear_stored-state.ensures.state (within_more (omega arith) within), c.requires.small.1) }
