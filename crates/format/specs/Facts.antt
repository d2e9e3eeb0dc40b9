-- The facts record, with the length in seconds: total over rate, rounded once. Assumes nothing.
use Rattle.std.specs.Prelude.{ℕ, false, cond, pos, Float}
use Rattle.std.specs.Float.{fin, binary64}
use Rattle.std.specs.Float.Ieee.{of_int, div}
use Rattle.format.specs.FileHeader.{is_fixed}
use Rattle.format.specs.declared.facts.Facts.{Facts}

-- 0.0
abbrev pub no_length : Float
no_length = fin false 0 (pos 0)

-- a double holds every number below 2 ^ 32, so the division is the one rounding
abbrev pub seconds : ℕ → ℕ → Float
seconds total rate = div binary64 (of_int binary64 (pos total)) (of_int binary64 (pos rate))

-- streaming has no length
unfoldable pub facts_of : ℕ → ℕ → ℕ → Facts
facts_of total c rate = record { total = total; channels = c; rate = rate; timed = is_fixed total; length = cond (is_fixed total) (seconds total rate) no_length }
