-- The quick rows hold what the division gives: at the place of a residual stands the code of its quotient, and that code's table value.
-- Assumes nothing.
use Rattle.std.proofs.Common.{◌≡◌, ℕ, zero, suc, ◌+◌, ◌-◌, ◌*◌, ◌/◌, ◌%◌, ◌^◌, ◌<◌, ◌≤◌, min, Bool, true, false, cond, not, T, ltb, List, [], length, get_or, take, drop, ℤ, pos, negsuc, ◌+ℤ◌, ◌-ℤ◌, sym, refl, ap, ◌∙◌, zero-mul, arith, ltb→lt, nltb→le, length-drop, length-take-le, get_or-drop, get_or-take, w32, to_z, ltb-true}
use lib.Signed.{shr_z}
use Rattle.wrap.proofs.Integers.{read_neg, read_pos}
use borrow.Author.Differences.{up, down}
use Rattle.std.proofs.lemmas.Int.{ints}
use Rattle.wrap.specs.Wrap.{modulo}
use Rattle.scale.specs.Tables.{factor_of, factors, reciprocal_of, row_of}
use Rattle.scale.specs.Division.{code_for, codes, divided_by, place_of, shifted, sign_of}
use Rattle.scale.specs.Parts.{half_of, quick_codes, quick_for, quick_place, quick_row, quick_tab, reciprocal_tab}
use Rattle.scale.proofs.Table.{agree, entry, values}

-- by whether a number is below a bound
split : {A : Type 0} (a b : ℕ) → (a < b → A) → (b ≤ a → A) → A
split {A} a b f g = go (ltb a b) (ltb→lt a b) (nltb→le a b)
  where
    go : (t : Bool) → (T t → a < b) → (T (not t) → b ≤ a) → A
    go true h k = f (h tt)
    go false h k = g (k tt)

-- ---- places

-- the place of a product below 0, without the test
low_place : (n : ℕ) → quick_place (negsuc n) ≡ 6 - n + 16 * min (n - 6) 1
unfolding quick_place
low_place n = go (ltb n 7) (ltb→lt n 7) (nltb→le n 7)
  where
    go : (t : Bool) → (T t → n < 7) → (T (not t) → 7 ≤ n) → cond t (6 - n) 16 ≡ 6 - n + 16 * min (n - 6) 1
    go true h k = omega (arith, h tt)
    go false h k = omega (arith, k tt)

pub quick_place_lt : (z : ℤ) → quick_place z < 17
unfolding quick_place
quick_place_lt (pos n) = omega arith
quick_place_lt (negsuc n) = rw (low_place n) (omega arith)

pub half_le : (v : ℤ) → half_of v ≤ 17
unfolding half_of
half_le (pos v) = omega arith
half_le (negsuc v) = omega arith

-- ---- the code: both places are functions of the product's distance from zero that stay as they are from 11 on

settle : (f g : ℕ → ℕ) → ((n : ℕ) → 11 < n → f n ≡ f 11) → ((n : ℕ) → 11 < n → g n ≡ g 11) → values (λ n. get_or quick_codes (f n) 0) 0 12 ≡ values (λ n. get_or codes (g n) 0) 0 12 → (n : ℕ) → get_or quick_codes (f n) 0 ≡ get_or codes (g n) 0
settle f g p q e n =
    split n 12
    (agree (λ m. get_or quick_codes (f m) 0) (λ m. get_or codes (g m) 0) 12 e n)
    (λ more. rw (p n more, q n more) (agree (λ m. get_or quick_codes (f m) 0) (λ m. get_or codes (g m) 0) 12 e 11 (omega arith)))

place_parts : (z : ℤ) → place_of z ≡ min (8 + up z - down z) 16
unfolding place_of
place_parts (pos n) = omega arith
place_parts (negsuc n) = omega arith

quotient_place : (n v s : ℤ) → place_of (n +ℤ v -ℤ s) ≡ min (8 + (up n + up v + down s) - (down n + down v + up s)) 16
quotient_place n v s = omega (arith, ints, place_parts (n +ℤ v -ℤ s))

-- a residual that is not 0, by its sign and the product's
up_up : (n : ℕ) → get_or quick_codes (min (n + 7) 15) 0 ≡ get_or codes (min (8 + (n + 1) - min n 1) 16) 0
unfolding quick_codes codes
up_up = settle (λ n. min (n + 7) 15) (λ n. min (8 + (n + 1) - min n 1) 16) (λ n more. omega arith) (λ n more. omega arith) refl

up_down : (n : ℕ) → get_or quick_codes (6 - n + 16 * min (n - 6) 1) 0 ≡ get_or codes (10 - suc n) 0
unfolding quick_codes codes
up_down = settle (λ n. 6 - n + 16 * min (n - 6) 1) (λ n. 10 - suc n) (λ n more. omega arith) (λ n more. omega arith) refl

down_up : (n : ℕ) → get_or quick_codes (17 + min (n + 7) 15) 0 ≡ get_or codes (min (8 + n - (1 + min n 1)) 16) 0
unfolding quick_codes codes
down_up = settle (λ n. 17 + min (n + 7) 15) (λ n. min (8 + n - (1 + min n 1)) 16) (λ n more. omega arith) (λ n more. omega arith) refl

down_down : (n : ℕ) → get_or quick_codes (17 + (6 - n + 16 * min (n - 6) 1)) 0 ≡ get_or codes (8 - suc n) 0
unfolding quick_codes codes
down_down = settle (λ n. 17 + (6 - n + 16 * min (n - 6) 1)) (λ n. 8 - suc n) (λ n more. omega arith) (λ n more. omega arith) refl

-- the sign of a product from 0 up
sign_parts : (n : ℕ) → (up (sign_of (pos n)) ≡ min n 1) × (down (sign_of (pos n)) ≡ 0)
unfolding sign_of
sign_parts zero = (refl, refl)
sign_parts (suc n) = (omega arith, refl)

at_rest : get_or quick_codes (half_of (pos 0) + quick_place (pos 0)) 0 ≡ code_for (pos 0 +ℤ sign_of (pos 0) -ℤ sign_of (pos 0))
unfolding half_of quick_place quick_codes code_for codes place_of sign_of
at_rest = refl

same : {i j f g : ℕ} → get_or quick_codes f 0 ≡ get_or codes g 0 → i ≡ f → j ≡ g → get_or quick_codes i 0 ≡ get_or codes j 0
same e p q = rw (p, q) e

coded : (v n : ℤ) → (v ≡ pos 0 → n ≡ pos 0) → get_or quick_codes (half_of v + quick_place n) 0 ≡ code_for (n +ℤ sign_of v -ℤ sign_of n)
unfolding half_of quick_place code_for sign_of
coded (pos zero) n h = rw (h refl) at_rest
coded (pos (suc v)) (pos n) h = same (up_up n) (omega arith) (omega (arith, quotient_place (pos n) (pos 1) (sign_of (pos n)), (sign_parts n).0, (sign_parts n).1))
coded (pos (suc v)) (negsuc n) h = same (up_down n) (omega (arith, low_place n)) (omega (arith, quotient_place (negsuc n) (pos 1) (negsuc 0)))
coded (negsuc v) (pos n) h = same (down_up n) (omega arith) (omega (arith, quotient_place (pos n) (negsuc 0) (sign_of (pos n)), (sign_parts n).0, (sign_parts n).1))
coded (negsuc v) (negsuc n) h = same (down_down n) (omega (arith, low_place n)) (omega (arith, quotient_place (negsuc n) (negsuc 0) (negsuc 0)))

-- the product of 0 is shifted to 0
still : (v : ℤ) (k : ℕ) → v ≡ pos 0 → shifted v k ≡ pos 0
unfolding shifted modulo
still v k e = rw (e, zero-mul (reciprocal_of k)) refl

-- The one law about the division: the code at a residual's place is that of its quotient.
pub code_there : (v : ℤ) (k : ℕ) → get_or quick_codes (half_of v + quick_place (shifted v k)) 0 ≡ code_for (divided_by v k)
unfolding divided_by
code_there v k = coded v (shifted v k) (still v k)

-- ---- the rows

pub quick_code_lt : (i : ℕ) → i < 34 → get_or quick_codes i 0 < 8
unfolding quick_codes
quick_code_lt i h = ltb-true _ _ (agree (λ j. ltb (get_or quick_codes j 0) 8) (λ j. true) 34 refl i h)

pub there_lt : (v z : ℤ) → half_of v + quick_place z < 34
there_lt v z = omega (arith, half_le v, quick_place_lt z)

pub row_entry : (k i : ℕ) → i < 34 → get_or (quick_row k) i (pos 0) ≡ get_or (row_of k) (get_or quick_codes i 0) (pos 0)
unfolding quick_row quick_for quick_codes row_of
row_entry k i h = entry (λ j. get_or (row_of k) (get_or quick_codes j 0) (pos 0)) (pos 0) 34 i h

-- so the table value there is that of the quotient's code
pub value_there : (v : ℤ) (k : ℕ) → get_or (quick_row k) (half_of v + quick_place (shifted v k)) (pos 0) ≡ get_or (row_of k) (code_for (divided_by v k)) (pos 0)
value_there v k = row_entry k _ (there_lt v (shifted v k)) ∙ ap (λ (i : ℕ). get_or (row_of k) i (pos 0)) (code_there v k)

pub quick_length : (k : ℕ) → length (quick_row k) ≡ 34
unfolding quick_row quick_for quick_codes
quick_length k = refl

pub quick_tab_row : (k : ℕ) → k < 16 → get_or quick_tab k [] ≡ quick_row k
unfolding quick_tab quick_row factor_of factors
quick_tab_row k h = entry quick_row [] 16 k h

pub quick_tab_length : length quick_tab ≡ 16
unfolding quick_tab factors
quick_tab_length = refl

pub reciprocal_entry : (k : ℕ) → k < 16 → get_or reciprocal_tab k (pos 0) ≡ pos (reciprocal_of k)
unfolding reciprocal_tab reciprocal_of factor_of factors
reciprocal_entry k h = entry (λ j. pos (reciprocal_of j)) (pos 0) 16 k h

-- ---- a half, taken as a part

pub half_long : (h : ℕ) (l : List ℤ) → h + 17 ≤ length l → length (take (h + 17 - h) (drop h l)) ≡ 17
half_long h l b = length-take-le (h + 17 - h) (drop h l) (omega (arith, length-drop h l)) ∙ omega arith

pub half_entry : (h i : ℕ) (l : List ℤ) → i < 17 → get_or (take (h + 17 - h) (drop h l)) i (pos 0) ≡ get_or l (h + i) (pos 0)
half_entry h i l b = get_or-take (h + 17 - h) (drop h l) i (pos 0) (omega arith) ∙ get_or-drop h l i (pos 0)

-- ---- the machine's place of a product plus 32768, of 32 bits

pub place_of_lem : (u : ℕ) → u < 2 ^ 32 → min ((u + 458752) % 2 ^ 32 / 2 ^ 16) (15 + u / 2 ^ 31) ≡ quick_place (shr_z (to_z w32 u) (2 ^ 16))
unfolding quick_place
place_of_lem u h =
    split u (2 ^ 31)
    (λ l. omega arith ∙ ap (λ (z : ℤ). quick_place (shr_z z (2 ^ 16))) (sym (read_pos w32 u l)))
    (λ g. omega arith ∙ sym (low_place ((2 ^ 32 - suc u) / 2 ^ 16)) ∙ ap (λ (z : ℤ). quick_place (shr_z z (2 ^ 16))) (sym (read_neg w32 u g)))
