-- Lists that arrays hold, filled from the front.
-- Assumes nothing.
use Prim.Native.Nat.{ℕ, ◌≤◌, ◌<◌}
use mathlib.Core.Path.{◌≡◌, sym, ◌∙◌}
use mathlib.Core.List.{List}
use native.Mathlib.Omega.{arith}
use lib.ListN.{length, get_or, take}
use lib.Seq.{get_or-take, length-take-le, take_all}
use Rattle.word.specs.Table.{table}
use Rattle.word.proofs.Tables.{table_ext, table_of}

module _ {A : Type 0} (f : ℕ → A) (l : List A) (d : A) (n : ℕ) (below : (k : ℕ) → k < n → get_or l k d ≡ f k) where
  -- the first n of a list are a table
  pub front_table : n ≤ length l → take n l ≡ table n f
  front_table h =
      sym (table_of n (take n l) d (length-take-le n l h)) ∙ table_ext n (λ i. get_or (take n l) i d) f (λ i b. get_or-take n l i d b ∙ below i b)

  -- so is the whole, where it has n
  pub whole_table : length l ≡ n → l ≡ table n f
  whole_table e = sym (take_all n l (omega arith)) ∙ front_table (omega arith)
