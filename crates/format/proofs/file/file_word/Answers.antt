-- `format::file::file_word` meets its contract: the shifted magic and the total share no bit. Assumes nothing.
use native.Mathlib.Omega.{arith}
use Rattle.word.proofs.Push.{push}
use Rattle.format.specs.FileHeader.{magic}
use Rattle.format.specs.Parts.{file_word}
use Rattle.format.proofs.file.file_word.Goals as goal

pub returns : goal.returns
unfolding file_word
returns c = push {n = magic} {b = c.args.total} 32 32 (omega arith) (omega arith) (omega arith)
