-- Numbers in bytes with the lowest byte first, and 16-bit samples as two such bytes each. Assumes nothing.
use Rattle.std.specs.Prelude.{ℕ, zero, suc, ◌+◌, ◌*◌, ◌/◌, ◌%◌, List, [], ◌∷◌, ℤ, get_or}
use Rattle.std.specs.Int.{w16}
use mir.Val.{to_z}
use Rattle.wrap.specs.Wrap.{low16}

-- the number of the n bytes from the place p on
unfoldable pub le : ℕ → List ℕ → ℕ → ℕ
le zero bs p = 0
le (suc n) bs p = get_or bs p 0 + 256 * le n bs (p + 1)

-- the bytes of samples
unfoldable pub le_bytes : List ℤ → List ℕ
le_bytes [] = []
le_bytes (x ∷ xs) = low16 x % 256 ∷ low16 x / 256 ∷ le_bytes xs

-- the sample whose bytes stand at a place
unfoldable pub le_sample : List ℕ → ℕ → ℤ
le_sample bs p = to_z w16 (le 2 bs p)
