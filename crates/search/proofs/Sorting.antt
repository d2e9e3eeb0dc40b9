-- The order of the candidates: `ordered` has each number below `n` once, by cost and then by number.
-- Assumes nothing.
use Prim.Native.Nat.{ℕ, zero, suc, ◌≤◌, ◌<◌}
use mathlib.Core.Path.{◌≡◌, refl, ap, ◌∙◌, subst}
use mathlib.Core.Logic.{◌⊎◌, inl, inr, ⊎_elim}
use mathlib.Core.Bool.{Bool, true, false, cond}
use mathlib.Core.List.{List, [], ◌∷◌}
use native.Mathlib.Omega.{arith}
use native.Mathlib.Decide.{dec_lt}
use borrow.Author.Tests.{ltb-true, ltb-false}
use lib.ListN.{length}
use Rattle.search.specs.Search.{dearer, insert, ordered}

-- ---- every member of a list

abbrev pub All : (ℕ → Type 0) → List ℕ → Type 0
All P [] = Unit
All P (x ∷ xs) = P x × All P xs

pub all_map : (P Q : ℕ → Type 0) → ((x : ℕ) → P x → Q x) → (l : List ℕ) → All P l → All Q l
all_map P Q f [] a = tt
all_map P Q f (x ∷ xs) a = (f x a.0, all_map P Q f xs a.1)

-- ---- `insert`

module _ (cost : ℕ → ℕ) (P : ℕ → Type 0) (f : ℕ) (pf : P f) where
  pub all_insert : (l : List ℕ) → All P l → All P (insert cost f l)
  unfolding insert
  all_insert [] a = (pf, tt)
  all_insert (g ∷ gs) a = by (dearer cost f g) (all_insert gs a.1)
    where
      by : (t : Bool) → All P (insert cost f gs) → All P (cond t (f ∷ g ∷ gs) (g ∷ insert cost f gs))
      by true h = (pf, a)
      by false h = (a.0, h)

pub length_insert : (cost : ℕ → ℕ) (f : ℕ) (l : List ℕ) → length (insert cost f l) ≡ suc (length l)
unfolding insert
length_insert cost f [] = refl
length_insert cost f (g ∷ gs) = by (dearer cost f g) (length_insert cost f gs)
  where
    by : (t : Bool) → length (insert cost f gs) ≡ suc (length gs) → length (cond t (f ∷ g ∷ gs) (g ∷ insert cost f gs)) ≡ suc (suc (length gs))
    by true h = refl
    by false h = ap suc h

-- ---- `ordered` is sorted by cost and then by number, and has each number below `n`

unfoldable pub Earlier : (ℕ → ℕ) → ℕ → ℕ → Type 0
Earlier cost g h = (cost g < cost h) ⊎ ((cost g ≡ cost h) × (g < h))

abbrev pub Sorted : (ℕ → ℕ) → List ℕ → Type 0
Sorted cost [] = Unit
Sorted cost (x ∷ xs) = All (Earlier cost x) xs × Sorted cost xs

-- What costs less than `g` is earlier than all that `g` is no later than.
cheaper : (cost : ℕ → ℕ) (f g h : ℕ) → cost f < cost g → Earlier cost g h → Earlier cost f h
unfolding Earlier
cheaper cost f g h l e = inl (⊎_elim (λ w. omega arith) (λ w. omega arith) e)

earlier_than_newest : (cost : ℕ → ℕ) (g f : ℕ) → cost g ≤ cost f → g < f → Earlier cost g f
unfolding Earlier
earlier_than_newest cost g f l n = by (dec_lt (cost g) (cost f))
  where
    by : Dec (cost g < cost f) → (cost g < cost f) ⊎ ((cost g ≡ cost f) × (g < f))
    by (yes y) = inl y
    by (no y) = inr (omega arith, n)

pub sorted_insert : (cost : ℕ → ℕ) (f : ℕ) (l : List ℕ) → All (λ g. g < f) l → Sorted cost l → Sorted cost (insert cost f l)
unfolding insert dearer Earlier
sorted_insert cost f [] a s = (tt, tt)
sorted_insert cost f (g ∷ gs) a s = by (dearer cost f g) refl (sorted_insert cost f gs a.1 s.1)
  where
    by : (t : Bool) → dearer cost f g ≡ t → Sorted cost (insert cost f gs) → Sorted cost (cond t (f ∷ g ∷ gs) (g ∷ insert cost f gs))
    by true e h = ((inl (ltb-true (cost f) (cost g) e), all_map _ _ (λ x. cheaper cost f g x (ltb-true (cost f) (cost g) e)) gs s.0), s)
    by false e h = (all_insert cost (Earlier cost g) f (earlier_than_newest cost g f (ltb-false (cost f) (cost g) e) a.0) gs s.0, h)

pub ordered_below : (cost : ℕ → ℕ) (n : ℕ) → All (λ g. g < n) (ordered cost n)
unfolding ordered
ordered_below cost zero = tt
ordered_below cost (suc n) = all_insert cost (λ g. g < suc n) n (omega arith) (ordered cost n) (all_map (λ g. g < n) (λ g. g < suc n) (λ g h. omega arith) (ordered cost n) (ordered_below cost n))

pub ordered_length : (cost : ℕ → ℕ) (n : ℕ) → length (ordered cost n) ≡ n
unfolding ordered
ordered_length cost zero = refl
ordered_length cost (suc n) = length_insert cost n (ordered cost n) ∙ ap suc (ordered_length cost n)

pub ordered_sorted : (cost : ℕ → ℕ) (n : ℕ) → Sorted cost (ordered cost n)
unfolding ordered
ordered_sorted cost zero = tt
ordered_sorted cost (suc n) = sorted_insert cost n (ordered cost n) (ordered_below cost n) (ordered_sorted cost n)

pub data Has (k : ℕ) : List ℕ → Type 0 where
  here : {l : List ℕ} → Has k (k ∷ l)
  there : {x : ℕ} {l : List ℕ} → Has k l → Has k (x ∷ l)

pub all_has : (P : ℕ → Type 0) (k : ℕ) (l : List ℕ) → Has k l → All P l → P k
all_has P k [] h a = elim h [ ]
all_has P k (x ∷ l) here a = a.0
all_has P k (x ∷ l) (there h) a = all_has P k l h a.1

has_new : (cost : ℕ → ℕ) (f : ℕ) (l : List ℕ) → Has f (insert cost f l)
unfolding insert
has_new cost f [] = here
has_new cost f (g ∷ gs) = by (dearer cost f g) (has_new cost f gs)
  where
    by : (t : Bool) → Has f (insert cost f gs) → Has f (cond t (f ∷ g ∷ gs) (g ∷ insert cost f gs))
    by true h = here
    by false h = there h

has_old : (cost : ℕ → ℕ) (f k : ℕ) (l : List ℕ) → Has k l → Has k (insert cost f l)
unfolding insert
has_old cost f k [] h = elim h [ ]
has_old cost f k (g ∷ gs) here = by (dearer cost f g)
  where
    by : (t : Bool) → Has g (cond t (f ∷ g ∷ gs) (g ∷ insert cost f gs))
    by true = there here
    by false = here
has_old cost f k (g ∷ gs) (there h) = by (dearer cost f g) (has_old cost f k gs h)
  where
    by : (t : Bool) → Has k (insert cost f gs) → Has k (cond t (f ∷ g ∷ gs) (g ∷ insert cost f gs))
    by true r = there (there h)
    by false r = there r

pub ordered_has : (cost : ℕ → ℕ) (n k : ℕ) → k < n → Has k (ordered cost n)
unfolding ordered
ordered_has cost zero k h = absurd (omega arith)
ordered_has cost (suc n) k h = by (dec_lt k n) (λ y. ordered_has cost n k y)
  where
    by : Dec (k < n) → (k < n → Has k (ordered cost n)) → Has k (insert cost n (ordered cost n))
    by (yes y) older = has_old cost n k (ordered cost n) (older y)
    by (no y) older = subst (λ (m : ℕ). Has m (insert cost n (ordered cost n))) (omega arith) (has_new cost n (ordered cost n))
