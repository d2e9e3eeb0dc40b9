-- `format::frame::header_word` meets its contract: the shifted fields share no bit. Assumes nothing.
use native.Mathlib.Omega.{arith}
use Rattle.format.specs.Header.{header_word}
use Rattle.word.proofs.Fields.{joined}
use Rattle.format.proofs.frame.header_word.Goals as goal

pub returns : goal.returns
unfolding header_word
returns c = joined 56 _ _ _ _ (omega arith) (omega arith) (omega arith) (omega arith) (omega arith) (omega arith)
