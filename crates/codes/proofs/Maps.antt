-- The number that an answer tells, where a function takes its value to a number. Assumes nothing.
use Prim.Native.Nat.{ℕ, ◌<◌, ◌^◌}
use mathlib.Core.Path.{◌≡◌, refl, ap}
use Rattle.std.specs.Prelude.{Result, Ok, Err}
use Rattle.std.specs.Result.{IfOk, IsOkAnd, MatchResult}
use Rattle.refusal.specs.Rules.{Answer, good, ◌then◌}
use Rattle.refusal.specs.Refusals.{told}
use Rattle.refusal.specs.declared.Refusal.{Refusal}

-- what `map` says of the answer that it gives
abbrev pub Mapped : {A : Type 0} → (A → ℕ → Type 0) → Result A Refusal → Result ℕ Refusal → Type 0
Mapped P a r = MatchResult a (λ x. IsOkAnd r (P x)) (λ e. r ≡ Err e)

-- a count that is small enough
pub told_small : (r : Result ℕ Refusal) → ((n : ℕ) → told r ≡ good n → n < 2 ^ 63) → IfOk r (λ n. n < 2 ^ 63)
told_small (Ok n) each = each n refl
told_small (Err e) each = tt

pub told_same : (r : Result ℕ Refusal) → told r ≡ (told r then λ n. good n)
told_same (Ok n) = refl
told_same (Err e) = refl

module _ {A : Type 0} (P : A → ℕ → Type 0) where
  pub told_map : (f : A → ℕ) (a : Result A Refusal) (r : Result ℕ Refusal) → ((x : A) (y : ℕ) → P x y → y ≡ f x) → Mapped P a r → told r ≡ (told a then λ x. good (f x))
  told_map f (Err e) r each m = ap told m
  told_map f (Ok x) (Ok y) each m = ap {B = Answer ℕ} good (each x y m)
  told_map f (Ok x) (Err e) each m = absurd m

  -- a number that fits
  pub map_small : (a : Result A Refusal) (r : Result ℕ Refusal) → ((x : A) (y : ℕ) → a ≡ Ok x → P x y → y < 2 ^ 63) → Mapped P a r → IfOk r (λ n. n < 2 ^ 63)
  map_small (Err e) r each m = rw m tt
  map_small (Ok x) (Ok y) each m = each x y refl m
  map_small (Ok x) (Err e) each m = absurd m
