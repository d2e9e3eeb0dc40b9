-- `word::fill` meets its contract: nothing is shifted out. Assumes nothing.
use Prim.Native.Nat.{◌+◌, ◌*◌, ◌-◌}
use native.Mathlib.Omega.{arith}
use lib.Pow.{shl_exact}
use Rattle.word.specs.Word.{filled}
use Rattle.word.proofs.fill.Goals as goal

pub returns : goal.returns
unfolding filled
returns c = let n = c.args.n in shl_exact (4 + 3 * n) (3 * (20 - n)) 64 c.requires.1 (omega arith)
