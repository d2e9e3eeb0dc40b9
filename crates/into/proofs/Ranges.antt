-- The range of the pending samples, 0 and 0 where none is left. Assumes nothing.
use mathlib.Core.Path.{◌≡◌, ap, ◌∙◌}
use mathlib.Core.Logic.{dite}
use Prim.Native.Nat.{ℕ, ◌+◌, ◌-◌, ◌≤◌, ◌<◌}
use native.Mathlib.Decide.{dec_lt}
use native.Mathlib.Omega.{arith}
use borrow.Author.Tests.{le-ltb, lt-ltb}
use Rattle.word.specs.Table.{table}
use Rattle.word.proofs.Tables.{table_ext}
use Rattle.into.specs.Into.{range_end, range_next}

-- two tables of one length that agree on it
pub table_same : {A : Type 0} (m n : ℕ) (f g : ℕ → A) → m ≡ n → ((i : ℕ) → i < m → f i ≡ g i) → table m f ≡ table n g
table_same m n f g e same = table_ext m f g same ∙ ap (λ (k : ℕ). table k g) e

module _ (a b : ℕ) where
  pub range_some : a < b → (range_next a b ≡ a) × (range_end a b ≡ b)
  range_some h = (rw (lt-ltb a b h), rw (lt-ltb a b h))

  pub range_none : b ≤ a → (range_next a b ≡ 0) × (range_end a b ≡ 0)
  range_none h = (rw (le-ltb a b h), rw (le-ltb a b h))

  pub range_length : range_end a b - range_next a b ≡ b - a
  range_length =
      dite (dec_lt a b)
      (λ h. rw (lt-ltb a b h))
      (λ h. let le : b ≤ a = omega arith in rw (le-ltb a b le) (omega arith))

  pub range_order : range_next a b ≤ range_end a b
  range_order =
      dite (dec_lt a b)
      (λ h. rw (lt-ltb a b h) (omega arith))
      (λ h. let le : b ≤ a = omega arith in rw (le-ltb a b le) (omega arith))

  pub range_le : range_end a b ≤ b
  range_le =
      dite (dec_lt a b)
      (λ h. rw (lt-ltb a b h) (omega arith))
      (λ h. let le : b ≤ a = omega arith in rw (le-ltb a b le) (omega arith))

  -- the samples in it
  pub range_table : {A : Type 0} (f : ℕ → A) → table (range_end a b - range_next a b) (λ i. f (range_next a b + i)) ≡ table (b - a) (λ i. f (a + i))
  range_table f =
      table_same (range_end a b - range_next a b) (b - a) (λ i. f (range_next a b + i)) (λ i. f (a + i)) range_length
      (λ i h. let some : a < b = omega (arith, range_length) in ap (λ (k : ℕ). f (k + i)) (range_some some).0)
