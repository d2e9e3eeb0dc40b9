-- The tables: the scale factors, what each code stands for, and the reciprocals.
-- Assumes nothing.
use Rattle.std.specs.Prelude.{ℕ, ◌+◌, ◌-◌, ◌*◌, ◌/◌, ◌^◌, List, [], ◌∷◌, ℤ, pos, neg_ℤ, slice_index}

-- the scale factors s: row k has the one with (2s - 1)^4 <= 16 (k + 1)^11 < (2s + 1)^4
unfoldable pub factors : List ℕ
factors = 1 ∷ 7 ∷ 21 ∷ 45 ∷ 84 ∷ 138 ∷ 211 ∷ 304 ∷ 421 ∷ 562 ∷ 731 ∷ 928 ∷ 1157 ∷ 1419 ∷ 1715 ∷ 2048 ∷ []

unfoldable pub factor_of : ℕ → ℕ
factor_of k = slice_index factors k

-- 1 as a product shifted right 16 has it
abbrev pub fixed_one : ℕ
fixed_one = 2 ^ 16

-- 65536 / s, rounded up
unfoldable pub reciprocal_of : ℕ → ℕ
reciprocal_of k = (fixed_one + factor_of k - 1) / factor_of k

-- a magnitude, followed by its negative
abbrev pub both : ℕ → List ℤ → List ℤ
both m more = pos m ∷ neg_ℤ (pos m) ∷ more

-- s times 0.75, 2.5, 4.5 and 7, halves rounded up, each followed by its negative
unfoldable pub row_for : ℕ → List ℤ
row_for s = both ((3 * s + 2) / 4) (both ((5 * s + 1) / 2) (both ((9 * s + 1) / 2) (both (7 * s) [])))

-- the row of scale factor k
unfoldable pub row_of : ℕ → List ℤ
row_of k = row_for (factor_of k)
