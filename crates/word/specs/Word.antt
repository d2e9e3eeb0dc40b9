-- A slice's 64-bit word: a scale factor of four bits, topmost, then twenty codes of three bits. Assumes nothing.
use Rattle.std.specs.Prelude.{ℕ, ◌-◌, ◌*◌, ◌/◌, ◌%◌, ◌^◌}

-- the field of so many bits that has so many bits below it
abbrev pub field : ℕ → ℕ → ℕ → ℕ
field bits below w = w / 2 ^ below % 2 ^ bits

abbrev pub scale_of : ℕ → ℕ
scale_of w = field 4 60 w

abbrev pub code_of : ℕ → ℕ → ℕ
code_of w i = field 3 (57 - 3 * i) w

-- shifted left 3 bits for each of the twenty codes that is missing
unfoldable pub filled : ℕ → ℕ → ℕ
filled n w = w * 2 ^ (3 * (20 - n))
