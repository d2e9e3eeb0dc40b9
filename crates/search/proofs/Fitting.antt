-- The samples of a slice: how many there are, and that they are of 16 bits.
-- Assumes nothing.
use Prim.Native.Nat.{ℕ, ◌<◌}
use mathlib.Core.Path.{◌≡◌}
use mathlib.Core.List.{List}
use native.Mathlib.Decide.{dec_lt}
use native.Mathlib.Omega.{arith}
use lib.Dec.{lit<}
use lib.IntN.{ℤ, pos}
use lib.ListN.{length, get_or-eq_default}
use mir.Syntax.{w16}
use mir.Val.{SFits}
use Rattle.word.specs.Table.{table}
use Rattle.word.proofs.Tables.{get_or_table, length_table}
use Rattle.lms.specs.Predictor.{at}
use Rattle.search.specs.Parts.{SamplesFit}
use Rattle.search.specs.Search.{strided}

pub table_fits : (f : ℕ → ℤ) (n : ℕ) → ((k : ℕ) → k < n → SFits w16 (f k)) → SamplesFit (table n f)
table_fits f n all = record { fit = λ i. by i (dec_lt i n) }
  where
    by : (i : ℕ) → Dec (i < n) → SFits w16 (at (table n f) i)
    by i (yes h) = rw (get_or_table n f i (pos 0) h) (all i h)
    by i (no h) = rw (get_or-eq_default (table n f) (pos 0) {n = i} (omega (arith, length_table n f))) (record { sfits = lit< tt })

pub strided_length : (n : ℕ) (samples : List ℤ) (start stride : ℕ) → length (strided n samples start stride) ≡ n
unfolding strided
strided_length n samples start stride = length_table n _
