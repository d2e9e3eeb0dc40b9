-- Bytes as text: two lower-case hex digits to a byte, the upper four bits first. Assumes nothing.
use Rattle.std.specs.Prelude.{ℕ, ◌+◌, ◌-◌, ◌*◌, ◌/◌, ◌%◌, Bool, ◌&&◌, cond, Option, Some, None, is_some, List, leb, ltb, eqb, length, get_or}
use Rattle.std.specs.List.{list_all}
use Rattle.io.specs.Digits.{hex_digit_ascii}

-- the value of a digit, `0` to `9` and `a` to `f`; 16 where the byte is none
unfoldable pub hex_value : ℕ → ℕ
hex_value b = cond (ltb b 48) 16 (cond (leb b 57) (b - 48) (cond (ltb b 97) 16 (cond (leb b 102) (b - 87) 16)))

-- the same, with none where the byte is none
abbrev pub digit_value : ℕ → Option ℕ
digit_value b = cond (ltb (hex_value b) 16) (Some (hex_value b)) None

-- the byte that two digits say, from a place of a text on
unfoldable pub pair_at : List ℕ → ℕ → ℕ
pair_at text p = hex_value (get_or text p 0) % 16 * 16 + hex_value (get_or text (p + 1) 0) % 16

-- the upper four bits of a byte for an even number, the lower four for an odd one
abbrev pub half : ℕ → ℕ → ℕ
half i b = cond (eqb (i % 2) 0) (b / 16) (b % 16)

-- the i-th digit of the text of bytes
unfoldable pub digit_of : List ℕ → ℕ → ℕ
digit_of bytes i = hex_digit_ascii (half i (get_or bytes (i / 2) 0))

-- whether a text is pairs of digits
abbrev pub is_hex : List ℕ → Bool
is_hex text = eqb (length text % 2) 0 && list_all (λ b. is_some (digit_value b)) text
