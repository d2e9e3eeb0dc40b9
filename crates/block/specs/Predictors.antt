-- Predictors in a block: for each channel four histories and four weights, signed numbers of 32 bits. Assumes nothing.
use Rattle.std.specs.Prelude.{ℕ, ◌+◌, ◌*◌, List, ◌++◌, ℤ}
use Rattle.std.specs.Int.{w32}
use mir.Val.{to_z}
use Rattle.wrap.specs.Wrap.{low32}
use Rattle.word.specs.Bytes.{be32, bytes_of}
use Rattle.word.specs.Table.{table}
use Rattle.lms.specs.Predictor.{at}
use Rattle.lms.specs.declared.QoaLms.{QoaLms}
use Rattle.format.specs.Format.{max_channels}
use Rattle.format.specs.Predictor.{lms_of}
use Rattle.body.specs.Laid.{laid}

-- ---- read

-- four numbers from a place on
unfoldable pub four_in : List ℕ → ℕ → List ℤ
four_in block p = table 4 (λ i. to_z w32 (be32 block (p + 4 * i)))

unfoldable pub predictor_in : List ℕ → ℕ → QoaLms
predictor_in block p = record { history = four_in block p; weights = four_in block (p + 16) }

-- those of so many channels
unfoldable pub predictors_in : List ℕ → ℕ → ℕ → List QoaLms
predictors_in block p channels = table channels (λ j. predictor_in block (p + 32 * j))

-- ---- written

-- four numbers; where a list has none there is 0
unfoldable pub four_bytes : List ℤ → List ℕ
four_bytes xs = laid 4 (λ i. bytes_of 4 (low32 (at xs i)))

unfoldable pub predictor_bytes : QoaLms → List ℕ
predictor_bytes lms = four_bytes lms.history ++ four_bytes lms.weights

-- those of all channels: past the used ones there are none, so there are 0
unfoldable pub predictors_bytes : List QoaLms → List ℕ
predictors_bytes states = laid max_channels (λ j. predictor_bytes (lms_of states j))
