-- `predictors::write_lms` meets its contract. Assumes nothing.
use Rattle.format.specs.Parts.{put_lms}
use Rattle.predictors.proofs.write_lms.Goals as goal

pub returns : goal.returns
unfolding put_lms
returns c = cc (c.write_be-2.ensures, c.four_word-2.ensures, c.write_be.ensures, c.four_word.ensures)
