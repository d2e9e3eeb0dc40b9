-- A double as its 64 bits. Assumes nothing.
use Rattle.std.specs.Prelude.{ℕ, cond, Float}
use Rattle.std.specs.Float.{binary64}
use Rattle.std.specs.Float.Ieee.{is_nan, to_bits}

-- one that is no number stands as 0
abbrev pub bits_of_double : Float → ℕ
bits_of_double x = cond (is_nan x) 0 (to_bits binary64 x)
