-- `slice::SliceWord::hear_fours` meets its contract. The loop's invariant: four times `k` samples are heard and stored.
-- The measure is what is left of the fours. Assumes nothing.
use mathlib.Core.Path.{refl}
use Prim.Native.Nat.{◌*◌}
use native.Mathlib.Omega.{arith}
use Rattle.word.specs.Parts.{written}
use Rattle.word.proofs.Writes.{length_written}
use Rattle.lms.proofs.Bounds.{within_more}
use Rattle.slice.specs.Slice.{state_after}
use Rattle.slice.proofs.Growth.{state_within}
use Rattle.slice.specs.Parts.{HeardTo}
use Rattle.slice.proofs.SliceWord.hear_fours.Goals as goal
use Rattle.slice.proofs.SliceWord.hear_fours.Goals.{After-hear_quiet-part}

pub loop-k-init : goal.loop-k-init
unfolding state_after written
loop-k-init c = (omega arith, refl, (refl, refl))

pub hear_quiet-part-requires : goal.hear_quiet-part-requires
hear_quiet-part-requires c =
    let so_far = c.loop-k.invariant.2 in record {
      gains = c.requires.gains;
      small = (rw so_far.0 (within_more (omega arith) (state_within c.args.self.now.word c.requires.small.0 (4 * c.loop-k.k))), omega arith, omega arith);
      room = λ i h. rw (so_far.1, length_written) (c.requires.room i (omega arith));
    }

-- how far the call came, from the slice's start
came : (c : After-hear_quiet-part) →
    let args = c.args in
    HeardTo args.self.now.word args.lms args.out.now args.start args.stride c.hear_quiet-part.result.done c.hear_quiet-part.result.lms c.hear_quiet-part.new.out
came c =
    c.hear_quiet-part.ensures.heard c.args.lms c.args.out.now c.loop-k.invariant.2
