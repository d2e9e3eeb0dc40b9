-- Laws of a slice's word: the fields of a word built from fields, whole or of a short slice, and a word built from its fields. Assumes nothing.
use mathlib.Core.Path.{◌≡◌, refl, ◌∙◌, ap}
use Prim.Native.Nat.{ℕ, zero, suc, ◌+◌, ◌-◌, ◌*◌, ◌/◌, ◌%◌, ◌^◌, ◌≤◌, ◌<◌}
use native.Mathlib.Nat.{add-zero, add-suc, zero-add, mul-one, mul_assoc, div-one, mod-eq_of_lt}
use native.Mathlib.Omega.{arith}
use lib.Pow.{high, low, shr-shr, shl-shr, shl_lt, pow-add}
use Rattle.word.specs.Word.{scale_of, code_of, filled}
use Rattle.word.proofs.Push.{push_lt, next_field}
use Rattle.word.specs.Parts.{packed}

-- only the codes below n count
pub packed_ext : (s : ℕ) (f g : ℕ → ℕ) (n : ℕ) → ((i : ℕ) → i < n → f i ≡ g i) → packed s f n ≡ packed s g n
unfolding packed
packed_ext s f g zero same = refl
packed_ext s f g (suc n) same = rw (packed_ext s f g n (λ i h. same i (omega arith)), same n (omega arith))

pub packed_lt : (s : ℕ) (f : ℕ → ℕ) (n : ℕ) → s < 16 → ((i : ℕ) → i < n → f i < 8) → packed s f n < 2 ^ (4 + 3 * n)
unfolding packed
packed_lt s f zero h small = h
packed_lt s f (suc n) h small =
    let more : 4 + 3 * n + 3 ≡ 4 + 3 * suc n = omega arith in
    rw (← more) (push_lt (4 + 3 * n) 3 (packed_lt s f n h (λ i l. small i (omega arith))) (small n (omega arith)))

-- filled, it has 64 bits
pub filled_lt : (n w : ℕ) → n ≤ 20 → w < 2 ^ (4 + 3 * n) → filled n w < 2 ^ 64
unfolding filled
filled_lt n w h small =
    let all : 4 + 3 * n + 3 * (20 - n) ≡ 64 = omega arith in
    rw all at (shl_lt (4 + 3 * n) (3 * (20 - n)) small)

-- without its last k codes
shifted : (s : ℕ) (f : ℕ → ℕ) (n k : ℕ) → ((i : ℕ) → i < n + k → f i < 8) → packed s f (n + k) / 2 ^ (3 * k) ≡ packed s f n
unfolding packed
shifted s f n zero small = rw add-zero (div-one (packed s f n))
shifted s f n (suc k) small =
    let more : 3 * suc k ≡ 3 + 3 * k = omega arith in
    rw (more, add-suc, ← shr-shr, high (packed s f (n + k)) 3 (small (n + k) (omega arith))) (shifted s f n k (λ i h. small i (omega arith)))

-- shifted up and down again, and down further
down : (w a b : ℕ) → w * 2 ^ a / 2 ^ (a + b) ≡ w / 2 ^ b
down w a b = rw (← shr-shr, shl-shr)

module _ (s : ℕ) (f : ℕ → ℕ) (n : ℕ) (fits : n ≤ 20) (small : (i : ℕ) → i < n → f i < 8) where
  -- a short slice has its codes,
  pub code_of_filled : (i : ℕ) → i < n → code_of (filled n (packed s f n)) i ≡ f i
  unfolding packed filled
  code_of_filled i h =
      let shift : 57 - 3 * i ≡ 3 * (20 - n) + 3 * (n - suc i) = omega arith in
      let all : suc i + (n - suc i) ≡ n = omega arith in
      let above : packed s f n / 2 ^ (3 * (n - suc i)) ≡ packed s f (suc i) =
      rw all at (shifted s f (suc i) (n - suc i) (λ j l. small j (omega arith))) in
      ap (λ (m : ℕ). m % 8) (ap (λ (m : ℕ). filled n (packed s f n) / 2 ^ m) shift ∙ down (packed s f n) (3 * (20 - n)) (3 * (n - suc i)) ∙ above)
      ∙ low (packed s f i) 3 (small i h)

  -- and its scale factor
  pub scale_of_filled : s < 16 → scale_of (filled n (packed s f n)) ≡ s
  unfolding packed filled
  scale_of_filled h =
      let shift : 60 ≡ 3 * (20 - n) + 3 * n = omega arith in
      let above : packed s f n / 2 ^ (3 * n) ≡ s = rw zero-add at (shifted s f 0 n (λ j l. small j (omega arith))) in
      ap (λ (m : ℕ). m % 16) (ap (λ (m : ℕ). filled n (packed s f n) / 2 ^ m) shift ∙ down (packed s f n) (3 * (20 - n)) (3 * n) ∙ above) ∙ mod-eq_of_lt h

-- and 0 for each code that is missing
pub code_missing : (w n i : ℕ) → n ≤ i → i < 20 → code_of (filled n w) i ≡ 0
unfolding filled
code_missing w n i h l =
    let below : 3 * (20 - n) ≡ 3 * (i - n) + 3 + (57 - 3 * i) = omega arith in
    let shift : w * 2 ^ (3 * (20 - n)) ≡ w * 2 ^ (3 * (i - n)) * 2 ^ 3 * 2 ^ (57 - 3 * i) =
    rw (below, pow-add 2 (3 * (i - n) + 3) (57 - 3 * i), pow-add 2 (3 * (i - n)) 3, ← mul_assoc, ← mul_assoc) in
    let up : filled n w / 2 ^ (57 - 3 * i) ≡ w * 2 ^ (3 * (i - n)) * 8 =
    rw shift (shl-shr (w * 2 ^ (3 * (i - n)) * 2 ^ 3) (57 - 3 * i)) in
    ap (λ (m : ℕ). m % 8) up ∙ omega arith

-- twenty codes need no shift
whole : (w : ℕ) → filled 20 w ≡ w
unfolding filled
whole w = mul-one w

module _ (s : ℕ) (f : ℕ → ℕ) (small : (i : ℕ) → i < 20 → f i < 8) where
  pub code_of_packed : (i : ℕ) → i < 20 → code_of (packed s f 20) i ≡ f i
  code_of_packed i h = rw whole at (code_of_filled s f 20 (omega arith) small i h)

  pub scale_of_packed : s < 16 → scale_of (packed s f 20) ≡ s
  scale_of_packed h = rw whole at (scale_of_filled s f 20 (omega arith) small h)

-- a short slice is one of twenty codes, those that are missing being 0
pub packed_short : (s : ℕ) (f g : ℕ → ℕ) (n k : ℕ) → ((i : ℕ) → i < n → f i ≡ g i) → ((i : ℕ) → n ≤ i → i < n + k → g i ≡ 0)
    → packed s f n * 2 ^ (3 * k) ≡ packed s g (n + k)
unfolding packed
packed_short s f g n zero front back = rw (add-zero, mul-one) (packed_ext s f g n front)
packed_short s f g n (suc k) front back =
    let more : 3 * suc k ≡ 3 * k + 3 = omega arith in
    let none : packed s g (n + k) * 8 ≡ packed s g (n + suc k) = rw (add-suc, back (n + k) (omega arith) (omega arith), add-zero) in
    rw (more, pow-add 2 (3 * k) 3, ← mul_assoc, packed_short s f g n k front (λ i h l. back i h (omega arith))) none

-- a word is built from its fields
packed_fields : (w n : ℕ) → n ≤ 20 → w < 2 ^ 64 → packed (scale_of w) (code_of w) n ≡ w / 2 ^ (60 - 3 * n)
unfolding packed
packed_fields w zero h small = mod-eq_of_lt (omega arith)
packed_fields w (suc n) h small =
    let above : 60 - 3 * n ≡ (57 - 3 * n) + 3 = omega arith in
    let here : 57 - 3 * n ≡ 60 - 3 * suc n = omega arith in
    rw (packed_fields w n (omega arith) small, above, next_field w (57 - 3 * n) 3, here)

pub packed_of_fields : (w : ℕ) → w < 2 ^ 64 → packed (scale_of w) (code_of w) 20 ≡ w
packed_of_fields w small = packed_fields w 20 (omega arith) small ∙ div-one w
