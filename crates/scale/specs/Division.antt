-- The division by a scale factor, and the code of a quotient.
-- Assumes nothing.
use Rattle.std.specs.Prelude.{ℕ, zero, suc, ◌+◌, ◌-◌, ◌^◌, min, List, [], ◌∷◌, ℤ, pos, negsuc, ◌+ℤ◌, ◌-ℤ◌, ◌*ℤ◌, slice_index}
use Rattle.std.specs.Int.Signed.{shr_z}
use Rattle.wrap.specs.Wrap.{wrap32}
use Rattle.scale.specs.Tables.{reciprocal_of}

-- 1, 0 or -1
unfoldable pub sign_of : ℤ → ℤ
sign_of (pos zero) = pos 0
sign_of (pos (suc n)) = pos 1
sign_of (negsuc n) = negsuc 0

-- v times the reciprocal plus 32768, wrapping, shifted right 16
unfoldable pub shifted : ℤ → ℕ → ℤ
shifted v k = shr_z (wrap32 (v *ℤ pos (reciprocal_of k) +ℤ pos 32768)) (2 ^ 16)

-- that number, plus the sign of v, minus its own sign
unfoldable pub divided_by : ℤ → ℕ → ℤ
divided_by v k = shifted v k +ℤ sign_of v -ℤ sign_of (shifted v k)

-- the codes of the quotients from -8 to 8
unfoldable pub codes : List ℕ
codes = 7 ∷ 7 ∷ 7 ∷ 5 ∷ 5 ∷ 3 ∷ 3 ∷ 1 ∷ 0 ∷ 0 ∷ 2 ∷ 2 ∷ 4 ∷ 4 ∷ 6 ∷ 6 ∷ 6 ∷ []

-- a quotient, clamped to -8 .. 8, plus 8
unfoldable pub place_of : ℤ → ℕ
place_of (pos n) = min n 8 + 8
place_of (negsuc n) = 8 - suc n

unfoldable pub code_for : ℤ → ℕ
code_for quotient = slice_index codes (place_of quotient)
