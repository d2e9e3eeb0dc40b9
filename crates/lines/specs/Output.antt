-- An output that grows: lent bytes, and how many of them are filled. Assumes nothing.
use Rattle.std.specs.Prelude.{ℕ, ◌+◌, ◌≤◌, ◌≡◌, cond, List, ltb, length, get_or}
use Rattle.word.specs.Parts.{written}

-- how many are filled after n bytes more, in room for so many: all of them where the n do not fit, and so it stays
unfoldable pub grown : ℕ → ℕ → ℕ → ℕ
grown room at n = cond (ltb (at + n) room) (at + n) room

-- the output after n bytes more, f 0, f 1, ..: as it was where they do not fit
unfoldable pub appended : (ℕ → ℕ) → ℕ → List ℕ → ℕ → List ℕ
appended f n out at = cond (ltb (at + n) (length out)) (written f out at 1 n) out

abbrev pub byte_at : List ℕ → ℕ → ℕ
byte_at text i = get_or text i 0

-- n bytes were appended from the place `at` on, and r are filled
pub record Put (f : ℕ → ℕ) (n at : ℕ) (out out' : List ℕ) (r : ℕ) : Type 0 where
  pub filled : r ≡ grown (length out) at n
  pub output : out' ≡ appended f n out at
  pub within : r ≤ length out
