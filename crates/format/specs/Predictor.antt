-- A channel's predictor state in a frame: four history and four weight numbers, signed 16-bit. Assumes nothing.
use Rattle.std.specs.Prelude.{ℕ, ◌+◌, ◌*◌, ◌^◌, List, [], ℤ, get_or}
use Rattle.std.specs.Int.{w16}
use mir.Val.{to_z}
use Rattle.word.specs.Table.{table}
use Rattle.word.specs.Bytes.{be16}
use Rattle.wrap.specs.Wrap.{low16}
use Rattle.lms.specs.Predictor.{at}
use Rattle.lms.specs.declared.QoaLms.{QoaLms}

-- the signed 16-bit number at a place
abbrev pub signed_at : List ℕ → ℕ → ℤ
signed_at bs p = to_z w16 (be16 bs p)

-- the state at a place
unfoldable pub lms_at : List ℕ → ℕ → QoaLms
lms_at bs p = record { history = table 4 (λ i. signed_at bs (p + 2 * i)); weights = table 4 (λ i. signed_at bs (p + 8 + 2 * i)) }

-- four numbers in a 64-bit word, the first topmost
unfoldable pub four_word : List ℤ → ℕ
four_word xs = low16 (at xs 0) * 2 ^ 48 + (low16 (at xs 1) * 2 ^ 32 + (low16 (at xs 2) * 2 ^ 16 + low16 (at xs 3)))

-- a list of predictors at a channel; what stands past the end means nothing
abbrev pub no_lms : QoaLms
no_lms = record { history = []; weights = [] }

abbrev pub lms_of : List QoaLms → ℕ → QoaLms
lms_of states j = get_or states j no_lms
