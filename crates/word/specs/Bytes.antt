-- Numbers in bytes, all big-endian. Bytes are numbers below 256, as `now s` gives them of a `&[u8]`. Assumes nothing.
use Rattle.std.specs.Prelude.{ℕ, zero, suc, ◌+◌, ◌-◌, ◌*◌, ◌/◌, ◌%◌, ◌^◌, List, get_or}
use Rattle.word.specs.Table.{table}

-- the number of the n bytes from the place p on
unfoldable pub be : ℕ → List ℕ → ℕ → ℕ
be zero bs p = 0
be (suc n) bs p = be n bs p * 256 + get_or bs (p + n) 0

abbrev pub be8 : List ℕ → ℕ → ℕ
be8 bs p = be 1 bs p

abbrev pub be16 : List ℕ → ℕ → ℕ
be16 bs p = be 2 bs p

abbrev pub be24 : List ℕ → ℕ → ℕ
be24 bs p = be 3 bs p

abbrev pub be32 : List ℕ → ℕ → ℕ
be32 bs p = be 4 bs p

abbrev pub be64 : List ℕ → ℕ → ℕ
be64 bs p = be 8 bs p

-- the i-th byte of a number of n bytes, the topmost being the first
unfoldable pub byte_of : ℕ → ℕ → ℕ → ℕ
byte_of n w i = w / 2 ^ (8 * (n - 1 - i)) % 256

-- the n bytes of a number
unfoldable pub bytes_of : ℕ → ℕ → List ℕ
bytes_of n w = table n (byte_of n w)
