-- `whole::held::decode_held` meets its contract. The invariant: what all frames leave in the memory that was lent is what the frames of the rest
-- leave, from the index `done` on, in the memory as it is. Assumes nothing.
use lib.ListN.{length}
use Rattle.whole.proofs.Decoding.{Decoded}
use Rattle.whole.proofs.held.decode_held.Given as goal

abbrev pub invariant-loop-rest : goal.invariant-loop-rest
invariant-loop-rest l = Decoded l.bytes l.initial.out l.out l.rest l.done

abbrev pub decreases-loop-rest : goal.decreases-loop-rest
decreases-loop-rest l = length l.rest
