-- The ranges of the definitions, which callers need for what the functions require.
-- Assumes nothing.
use Rattle.std.proofs.Common.{◌≡◌, ℕ, ◌<◌, ◌≤◌, true, ltb, leb, length, get_or, ℤ, pos, negsuc, nat_abs, refl, arith, ltb-true, leb-true}
use Rattle.scale.specs.Tables.{fixed_one, reciprocal_of, row_for, row_of, factor_of, factors}
use Rattle.scale.specs.Division.{code_for, codes, place_of}
use Rattle.scale.proofs.Table.{agree, values}

pub place_lt : (z : ℤ) → place_of z < 17
unfolding place_of
place_lt (pos n) = omega arith
place_lt (negsuc n) = omega arith

pub code_lt : (quotient : ℤ) → code_for quotient < 8
unfolding code_for codes
code_lt quotient = ltb-true _ _ (agree (λ i. ltb (get_or codes i 0) 8) (λ i. true) 17 refl (place_of quotient) (place_lt quotient))

pub reciprocal_small : (k : ℕ) → k < 16 → reciprocal_of k ≤ fixed_one
unfolding reciprocal_of factor_of factors
reciprocal_small k h = leb-true _ _ (agree (λ i. leb (reciprocal_of i) fixed_one) (λ i. true) 16 refl k h)

pub row_length : (k : ℕ) → length (row_of k) ≡ 8
unfolding row_of row_for
row_length k = refl

-- one test for each entry of a row, at all sixteen rows
pub row_small : (k i : ℕ) → k < 16 → i < 8 → nat_abs (get_or (row_of k) i (pos 0)) ≤ 14336
unfolding row_of row_for factor_of factors
row_small k i h l = leb-true _ _ (agree (λ j. leb (nat_abs (get_or (row_of k) j (pos 0))) 14336) (λ j. true) 8 (agree (λ m. values (λ j. leb (nat_abs (get_or (row_of m) j (pos 0))) 14336) 0 8) (λ m. values (λ j. true) 0 8) 16 refl k h) i l)
