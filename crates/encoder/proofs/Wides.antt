-- Laws of the first channel that has a weight out of 16 bits. Assumes nothing.
use Prim.Native.Nat.{ℕ, zero, suc, ◌≤◌, ◌<◌}
use mathlib.Core.Path.{◌≡◌, refl, ap₂, subst, sym}
use mathlib.Core.Bool.{Bool, true, false, cond}
use mathlib.Core.List.{List}
use mathlib.Core.Option.{Option, none, some}
use mathlib.Core.Logic.{⊎_elim}
use native.Mathlib.Nat.{eq-or-lt_of_le, le_of_suc-le-suc, not-suc-le-zero}
use native.Mathlib.Omega.{arith}
use Rattle.wrap.proofs.Integers.{abs≤mag}
use Rattle.lms.specs.Predictor.{at, all_short}
use Rattle.lms.specs.declared.QoaLms.{QoaLms}
use lib.ListN.{length, take}
use Rattle.std.specs.Prelude as P
use Rattle.std.specs.Option.{MatchOption}
use Rattle.std.specs.List.{AllWithin, HoldsAt}
use Rattle.std.proofs.lemmas.List.{get_or-take, length-take-le}
use Rattle.encoder.specs.Parts.{told_wide}
use Rattle.format.specs.Predictor.{lms_of, no_lms}
use Rattle.lms.specs.Parts.{WeightsWithin}
use Rattle.lms.proofs.Shorts.{short_fits}
use Rattle.encoder.specs.Frame.{first_wide, or_then}

pub short_within : (lms : QoaLms) → all_short lms.weights ≡ true → WeightsWithin 32768 lms
short_within lms e = record { bound = λ i. omega (arith, abs≤mag (at lms.weights i), (short_fits lms.weights e i).sfits) }

-- ---- the first channel

pub wide_ext : (n : ℕ) (s t : List QoaLms) → ((j : ℕ) → j < n → lms_of s j ≡ lms_of t j) → first_wide n s ≡ first_wide n t
unfolding first_wide
wide_ext zero s t same = refl
wide_ext (suc n) s t same =
    ap₂ (λ (o : Option ℕ) (l : QoaLms). or_then o (cond (all_short l.weights) none (some n))) (wide_ext n s t (λ j l. same j (omega arith))) (same n (omega arith))

-- what `position` answers of it
abbrev pub IsFirstWide : List QoaLms → P.Option ℕ → Type 0
IsFirstWide all r =
    MatchOption r (AllWithin (λ lms. all_short lms.weights ≡ true) all 0 (length all))
    (λ i. (i < length all) × HoldsAt (λ lms. all_short lms.weights ≡ false) all i × AllWithin (λ lms. all_short lms.weights ≡ true) all 0 i)

module _ (s : List QoaLms) where
  -- one channel more
  pub wide_more : (j : ℕ) → first_wide j s ≡ none → all_short (lms_of s j).weights ≡ true → first_wide (suc j) s ≡ none
  unfolding first_wide
  wide_more j e t = rw (e, t)

  pub wide_here : (j : ℕ) → first_wide j s ≡ none → all_short (lms_of s j).weights ≡ false → first_wide (suc j) s ≡ some j
  unfolding first_wide
  wide_here j e t = rw (e, t)

  pub wide_stays : (n k j : ℕ) → first_wide k s ≡ some j → k ≤ n → first_wide n s ≡ some j
  unfolding first_wide
  wide_stays zero k j e h = let same : k ≡ 0 = omega arith in subst (λ (m : ℕ). first_wide m s ≡ some j) same e
  wide_stays (suc n) k j e h =
      ⊎_elim (λ (q : k ≡ suc n). subst (λ (m : ℕ). first_wide m s ≡ some j) q e) (λ less. rw (wide_stays n k j e (le_of_suc-le-suc less))) (eq-or-lt_of_le h)

  pub wide_all : (n : ℕ) → ((j : ℕ) → j < n → all_short (lms_of s j).weights ≡ true) → first_wide n s ≡ none
  unfolding first_wide
  wide_all zero each = refl
  wide_all (suc n) each = wide_more n (wide_all n (λ j h. each j (omega arith))) (each n (omega arith))

  -- the first of n channels
  pub wide_at : (n j : ℕ) → j < n → ((k : ℕ) → k < j → all_short (lms_of s k).weights ≡ true) → all_short (lms_of s j).weights ≡ false → first_wide n s ≡ some j
  wide_at n j h each here = wide_stays n (suc j) j (wide_here j (wide_all j each) here) (omega arith)

  -- the same, as `position` finds it
  pub wide_told : (n : ℕ) → n ≤ length s → (r : P.Option ℕ) → IsFirstWide (take n s) r → told_wide r ≡ first_wide n s
  wide_told n room P.None m =
      let long = length-take-le n s room in
      sym (wide_all n (λ j h. rw (← get_or-take n s j no_lms h) (m j no_lms (omega arith) (omega arith))))
  wide_told n room (P.Some i) m =
      let long = length-take-le n s room in
      sym (wide_at n i (omega arith) (λ k h. let below : k < n = omega arith in rw (← get_or-take n s k no_lms below) (m.2 k no_lms (omega arith) h)) (let below : i < n = omega arith in rw (← get_or-take n s i no_lms below) (m.1 no_lms)))

  -- none at all
  left_none : (o p : Option ℕ) → or_then o p ≡ none → (o ≡ none) × (p ≡ none)
  left_none none p e = (refl, e)
  left_none (some j) p e = let z : ◌≡◌ {A = ℕ} 0 1 = cc in absurd (omega arith)

  was_short : (b : Bool) (n : ℕ) → cond b none (some n) ≡ none → b ≡ true
  was_short true n e = refl
  was_short false n e = let z : ◌≡◌ {A = ℕ} 0 1 = cc in absurd (omega arith)

  pub wide_none : (n : ℕ) → first_wide n s ≡ none → (j : ℕ) → j < n → all_short (lms_of s j).weights ≡ true
  unfolding first_wide
  wide_none zero e j h = absurd (not-suc-le-zero h)
  wide_none (suc n) e j h =
      let both = left_none (first_wide n s) _ e in
      ⊎_elim (λ (q : j ≡ n). rw q (was_short _ n both.1)) (λ less. wide_none n both.0 j less) (eq-or-lt_of_le (le_of_suc-le-suc h))
