-- Laws of `below`, a test of each index below a number, and of `&&`. Assumes nothing.
use Prim.Native.Nat.{ℕ, zero, suc, ◌<◌}
use mathlib.Core.Path.{◌≡◌, refl, sym, ap, ap₂, ◌∙◌}
use mathlib.Core.Bool.{Bool, true, false, ◌&&◌}
use mathlib.Core.Logic.{⊎_elim}
use lib.Seq.{take-length}
use native.Mathlib.Nat.{eq-or-lt_of_le, le_refl, le_of_suc-le-suc, not-suc-le-zero}
use native.Mathlib.Omega.{arith}
use lib.ListN.{get_or, length, take}
use mathlib.Core.List.{List}
use Prim.Native.Nat.{◌≤◌}
use Rattle.std.specs.List.{list_all}
use Rattle.std.proofs.Common.{add-one}
use Rattle.std.proofs.lemmas.List.Folds.{list_all_more}
use Rattle.word.specs.Below.{below}

pub and_left : (a b : Bool) → (a && b) ≡ true → a ≡ true
and_left true b e = refl
and_left false b e = e

pub and_right : (a b : Bool) → (a && b) ≡ true → b ≡ true
and_right true b e = e
and_right false b e = cc

pub and_both : (a b : Bool) → a ≡ true → b ≡ true → (a && b) ≡ true
and_both a b p q = rw (p, q)

-- a test that does not hold fails
pub fails : (b : Bool) → (b ≡ true → ◌≡◌ {A = Bool} true false) → b ≡ false
fails true h = h refl
fails false h = refl

-- what each index tells
pub below_at : (p : ℕ → Bool) (c : ℕ) → below c p ≡ true → (k : ℕ) → k < c → p k ≡ true
unfolding below
below_at p zero e k h = absurd (not-suc-le-zero h)
below_at p (suc c) e k h =
    ⊎_elim
    (λ (q : k ≡ c). rw q (and_right (below c p) (p c) e))
    (λ less. below_at p c (and_left (below c p) (p c) e) k less)
    (eq-or-lt_of_le (le_of_suc-le-suc h))

pub below_all : (p : ℕ → Bool) (c : ℕ) → ((k : ℕ) → k < c → p k ≡ true) → below c p ≡ true
unfolding below
below_all p zero h = refl
below_all p (suc c) h = and_both (below c p) (p c) (below_all p c (λ k l. h k (omega arith))) (h c (omega arith))

-- one more, and one at which the test fails
pub below_more : (p : ℕ → Bool) (k : ℕ) → below k p ≡ true → p k ≡ true → below (suc k) p ≡ true
unfolding below
below_more p k e n = and_both (below k p) (p k) e n

pub below_false : (p : ℕ → Bool) (c k : ℕ) → k < c → p k ≡ false → below c p ≡ false
below_false p c k h n = fails (below c p) (λ e. sym (below_at p c e k h) ∙ n)

-- only the indices below the number count
pub below_ext : (p q : ℕ → Bool) (c : ℕ) → ((k : ℕ) → k < c → p k ≡ q k) → below c p ≡ below c q
unfolding below
below_ext p q zero same = refl
below_ext p q (suc c) same = ap₂ ◌&&◌ (below_ext p q c (λ k l. same k (omega arith))) (same c (omega arith))

-- over the first of a list
pub below_list : {A : Type 0} (p : A → Bool) (xs : List A) (d : A) (n : ℕ) → n ≤ length xs → below n (λ j. p (get_or xs j d)) ≡ list_all p (take n xs)
unfolding below
below_list p xs d zero h = refl
below_list p xs d (suc n) h = ap (λ (b : Bool). b && p (get_or xs n d)) (below_list p xs d n (omega arith)) ∙ sym (rw add-one at (list_all_more p xs n d (omega arith)))

-- over all of it
pub list_all-below : {A : Type 0} (test : A → Bool) (xs : List A) (d : A) → list_all test xs ≡ below (length xs) (λ i. test (get_or xs i d))
list_all-below test xs d = let whole = below_list test xs d (length xs) (le_refl (length xs)) in sym (whole ∙ ap (list_all test) (take-length xs))
