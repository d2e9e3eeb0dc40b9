-- The elements of lists as bytes. Assumes nothing.
use Rattle.std.specs.Prelude.{ℕ, zero, suc, ◌*◌, List, get_or}
use Rattle.word.specs.Parts.{put}

-- `out` with the first n numbers stored from its start on, four bytes each
unfoldable pub numbers_put : List ℕ → List ℕ → ℕ → List ℕ
numbers_put numbers out zero = out
numbers_put numbers out (suc n) = put 4 (numbers_put numbers out n) (n * 4) (get_or numbers n 0)
