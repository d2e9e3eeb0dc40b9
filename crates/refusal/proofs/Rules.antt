-- The laws of `first_of`, `unless` and `_then_`: what a good answer says of the rules before it, and the other way round. Assumes nothing.
use Prim.Native.Nat.{ℕ, zero, suc}
use mathlib.Core.Path.{◌≡◌, refl, sym, ap}
use mathlib.Core.Logic.{◌⊎◌, inl, inr, ⊎_elim}
use mathlib.Core.Bool.{true, false, not}
use mathlib.Core.List.{List, [], ◌∷◌, ◌++◌}
use mathlib.Core.Option.{Option, none, some, some-ne-none, none-ne-some}
use native.Mathlib.Omega.{arith}
use lib.Dec.{T}
use Rattle.refusal.specs.Rules.{Answer, refused, good, Rule, ◌gives◌, first_of, unless, after, ◌then◌}

-- no rule of the list fires
abbrev pub Quiet : List Rule → Type 0
Quiet [] = Unit {0}
Quiet ((test gives n) ∷ rules) = T (not test) × Quiet rules

pub quiet : (l : List Rule) → first_of l ≡ none → Quiet l
unfolding first_of
quiet [] e = tt
quiet ((true gives n) ∷ l) e = absurd (some-ne-none n e)
quiet ((false gives n) ∷ l) e = (tt, quiet l e)

pub none_fires : (l : List Rule) → Quiet l → first_of l ≡ none
unfolding first_of
none_fires [] q = refl
none_fires ((true gives n) ∷ l) q = absurd q.0
none_fires ((false gives n) ∷ l) q = none_fires l q.1

-- rule i is the first to fire, and gives n: with the list written out, a product of tests, which `omega (arith, tests)` proves whole
abbrev pub FiresAt : ℕ → List Rule → ℕ → Type 0
FiresAt i [] n = ⊥
FiresAt zero ((test gives m) ∷ rules) n = T test × (m ≡ n)
FiresAt (suc i) ((test gives m) ∷ rules) n = T (not test) × FiresAt i rules n

pub fires : (i : ℕ) (l : List Rule) (n : ℕ) → FiresAt i l n → first_of l ≡ some n
unfolding first_of
fires i [] n f = absurd f
fires zero ((true gives m) ∷ l) n f = ap {B = Option ℕ} some f.1
fires zero ((false gives m) ∷ l) n f = absurd f.0
fires (suc i) ((true gives m) ∷ l) n f = absurd f.0
fires (suc i) ((false gives m) ∷ l) n f = fires i l n f.1

-- of two lists, the first to fire is that of the first list, or else that of the second
pub fires_left : (a b : List Rule) (n : ℕ) → first_of a ≡ some n → first_of (a ++ b) ≡ some n
unfolding first_of
fires_left [] b n e = absurd (none-ne-some n e)
fires_left ((true gives m) ∷ a) b n e = e
fires_left ((false gives m) ∷ a) b n e = fires_left a b n e

pub fires_right : (a b : List Rule) → first_of a ≡ none → first_of (a ++ b) ≡ first_of b
unfolding first_of
fires_right [] b e = refl
fires_right ((true gives m) ∷ a) b e = absurd (some-ne-none m e)
fires_right ((false gives m) ∷ a) b e = fires_right a b e

pub quiet_parts : (a b : List Rule) → Quiet (a ++ b) → Quiet a × Quiet b
quiet_parts [] b q = (tt, q)
quiet_parts ((t gives n) ∷ a) b q = let p = quiet_parts a b q.1 in ((q.0, p.0), p.1)

pub quiet_both : (a b : List Rule) → Quiet a → Quiet b → Quiet (a ++ b)
quiet_both [] b p q = q
quiet_both ((t gives n) ∷ a) b p q = (p.0, quiet_both a b p.1 q)

module _ {A : Type 0} where
  pub never : {X : Type 0} (x : A) (n : ℕ) → good x ≡ refused n → X
  never x n e = let z : ◌≡◌ {A = ℕ} 0 1 = cc in absurd (omega arith)

  pub good_same : (x y : A) → good x ≡ good y → x ≡ y
  good_same x y e = cc

  pub refused_one : (m n : ℕ) → ◌≡◌ {A = Answer A} (refused m) (refused n) → m ≡ n
  refused_one m n e = cc

  pub unless_good : (o : Option ℕ) (a : Answer A) (x : A) → unless o a ≡ good x → (o ≡ none) × (a ≡ good x)
  unless_good none a x e = (refl, e)
  unless_good (some n) a x e = never x n (sym e)

  pub after_good : (l : List Rule) (a : Answer A) (x : A) → after l a ≡ good x → Quiet l × (a ≡ good x)
  after_good l a x e = let h = unless_good (first_of l) a x e in (quiet l h.0, h.1)

  pub good_after : (l : List Rule) (a : Answer A) → Quiet l → after l a ≡ a
  good_after l a q = rw (none_fires l q)

  -- the first rule that fires decides
  pub refused_at : (i : ℕ) (l : List Rule) (n : ℕ) (a : Answer A) → FiresAt i l n → after l a ≡ refused n
  refused_at i l n a f = rw (fires i l n f)

  -- a refusal is the rules', or else the answer's
  pub unless_refused : (o : Option ℕ) (a : Answer A) (n : ℕ) → unless o a ≡ refused n → (o ≡ some n) ⊎ ((o ≡ none) × (a ≡ refused n))
  unless_refused none a n e = inr (refl, e)
  unless_refused (some m) a n e = inl (ap {B = Option ℕ} some (refused_one m n e))

  pub after_refused : (l : List Rule) (x : A) (n : ℕ) → after l (good x) ≡ refused n → first_of l ≡ some n
  after_refused l x n e = ⊎_elim (λ fired. fired) (λ no. never x n no.1) (unless_refused (first_of l) (good x) n e)

module _ {A B : Type 0} where
  pub then_refused : (a : Answer A) (f : A → Answer B) (n : ℕ) → (a then f) ≡ refused n → (a ≡ refused n) ⊎ ((y : A) × (a ≡ good y) × (f y ≡ refused n))
  then_refused (refused m) f n e = inl (ap {B = Answer A} refused (refused_one m n e))
  then_refused (good y) f n e = inr (y, refl, e)

  pub then_good : (a : Answer A) (f : A → Answer B) (x : B) → (a then f) ≡ good x → (y : A) × (a ≡ good y) × (f y ≡ good x)
  then_good (refused n) f x e = never x n (sym e)
  then_good (good y) f x e = (y, refl, e)
