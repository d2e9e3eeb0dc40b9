-- Laws of the tail rule: what every proof above knows of it. Assumes nothing.
use Prim.Native.Nat.{ℕ, ◌<◌}
use mathlib.Core.Bool.{true}
use native.Mathlib.Omega.{arith}
use lib.Dec.{T}
use Rattle.word.proofs.Tests.{tests}
use Rattle.format.specs.Grammar.{tail_ok}

-- a walk ends there: no frame header is left
pub tail_short : (n : ℕ) → T (tail_ok n true) → n < 8
unfolding tail_ok
tail_short n ok = omega (arith, tests)

-- a file may end with its last frame
pub tail_none : T (tail_ok 0 true)
unfolding tail_ok
tail_none = tt

-- as today's rule has it, seven bytes may be left; only the worked example of one sample needs that
pub tail_seven : T (tail_ok 7 true)
unfolding tail_ok
tail_seven = tt
