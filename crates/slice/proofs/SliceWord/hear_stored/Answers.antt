-- `slice::SliceWord::hear_stored` meets its contract: the loud loop goes on where the quiet one stopped. Assumes nothing.
use native.Mathlib.Omega.{arith}
use Rattle.word.proofs.Writes.{length_written}
use Rattle.lms.proofs.Bounds.{within_more}
use Rattle.slice.proofs.Growth.{state_within}
use Rattle.slice.proofs.SliceWord.hear_stored.Goals as goal

pub hear_loud-requires : goal.hear_loud-requires
hear_loud-requires c =
    let so_far = c.hear_fours-part.ensures.heard in record {
      gains = c.requires.gains;
      small = (rw so_far.0 (within_more (omega arith) (state_within c.args.self.now.word c.requires.small.0 c.hear_fours-part.result.done)), omega arith, c.requires.small.1);
      room = λ i h. rw (so_far.1, length_written) (c.requires.room i h);
    }
