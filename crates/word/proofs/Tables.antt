-- The laws of `table`. Assumes nothing.
use Prim.Native.Nat.{ℕ, zero, suc, ◌+◌, ◌<◌, zero-le, suc-le-suc}
use mathlib.Core.Path.{◌≡◌, refl, ap, ap₂}
use mathlib.Core.List.{List, [], ◌∷◌, ◌++◌}
use native.Mathlib.Nat.{le_of_suc-le-suc, not-suc-le-zero, suc-add, zero-add}
use native.Mathlib.Omega.{arith}
use lib.ListN.{length, get_or}
use Rattle.word.specs.Table.{table}

module _ {A : Type 0} where
  pub length_table : (n : ℕ) (f : ℕ → A) → length (table n f) ≡ n
  unfolding table
  length_table zero f = refl
  length_table (suc n) f = ap suc (length_table n (λ i. f (suc i)))

  pub get_or_table : (n : ℕ) (f : ℕ → A) (i : ℕ) (d : A) → i < n → get_or (table n f) i d ≡ f i
  unfolding table
  get_or_table zero f i d h = absurd (not-suc-le-zero h)
  get_or_table (suc n) f zero d h = refl
  get_or_table (suc n) f (suc i) d h = get_or_table n (λ i. f (suc i)) i d (le_of_suc-le-suc h)

  -- only the entries below n count
  pub table_ext : (n : ℕ) (f g : ℕ → A) → ((i : ℕ) → i < n → f i ≡ g i) → table n f ≡ table n g
  unfolding table
  table_ext zero f g h = refl
  table_ext (suc n) f g h =
      ap₂ {C = List A} (λ x l. x ∷ l) (h 0 (suc-le-suc zero-le)) (table_ext n (λ i. f (suc i)) (λ i. g (suc i)) (λ i l. h (suc i) (suc-le-suc l)))

  -- a list is the table of its elements
  pub table_of : (n : ℕ) (l : List A) (d : A) → length l ≡ n → table n (λ i. get_or l i d) ≡ l
  unfolding table
  table_of zero [] d e = refl
  table_of zero (x ∷ l) d e = absurd (omega arith)
  table_of (suc n) [] d e = absurd (omega arith)
  table_of (suc n) (x ∷ l) d e = ap {B = List A} (λ r. x ∷ r) (table_of n l d (omega arith))

  -- cut in two
  pub table_append : (m n : ℕ) (f : ℕ → A) → table (m + n) f ≡ table m f ++ table n (λ i. f (m + i))
  unfolding table
  table_append zero n f = simp zero-add
  table_append (suc m) n f = simp (suc-add, table_append m n (λ i. f (suc i)))

  -- one entry more
  pub table_last : (n : ℕ) (f : ℕ → A) → table (suc n) f ≡ table n f ++ (f n ∷ [])
  unfolding table
  table_last zero f = refl
  table_last (suc n) f = ap (λ (l : List A). f 0 ∷ l) (table_last n (λ i. f (suc i)))
