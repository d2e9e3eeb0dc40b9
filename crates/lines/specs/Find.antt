-- Places in a text. Assumes nothing.
use Rattle.std.specs.Prelude.{ℕ, ◌<◌, ◌≤◌, min, ◌≡◌, List, length, get_or}

-- r is the first place from `from` on where the byte b stands, or the end
pub record FirstPlace (text : List ℕ) (from b r : ℕ) : Type 0 where
  pub within : r ≤ length text
  pub onward : min from (length text) ≤ r
  pub before : (k : ℕ) → k < r → from ≤ k → get_or text k 0 ≡ b → ⊥
  pub there : r < length text → get_or text r 0 ≡ b
