-- The quick rows: where a residual stands in them, and what stands there. They are derived, and no definition rests on them.
-- Assumes nothing.
use Rattle.std.specs.Prelude.{ℕ, ◌+◌, ◌-◌, ◌/◌, min, cond, List, [], ◌∷◌, map, ℤ, pos, negsuc, nat_lt, slice_index_or}
use Rattle.scale.specs.Tables.{factor_of, factors, row_for, fixed_one}

-- where the half of a residual starts: those from 0 up come first
unfoldable pub half_of : ℤ → ℕ
half_of (pos v) = 0
half_of (negsuc v) = 17

-- the place of a shifted product in its half: -7 to 7, then 8 and more, then -8 and less
unfoldable pub quick_place : ℤ → ℕ
quick_place (pos n) = min (n + 7) 15
quick_place (negsuc n) = cond (nat_lt n 7) (6 - n) 16

-- the code at each place
unfoldable pub quick_codes : List ℕ
quick_codes =
    5 ∷ 5 ∷ 3 ∷ 3 ∷ 1 ∷ 0 ∷ 0 ∷ 0 ∷ 0 ∷ 2 ∷ 2 ∷ 4 ∷ 4 ∷ 6 ∷ 6 ∷ 6 ∷ 7
    ∷ 7 ∷ 7 ∷ 5 ∷ 5 ∷ 3 ∷ 3 ∷ 1 ∷ 1 ∷ 1 ∷ 0 ∷ 0 ∷ 2 ∷ 2 ∷ 4 ∷ 4 ∷ 6 ∷ 7 ∷ []

-- the table values of those codes, for scale factor s
unfoldable pub quick_for : ℕ → List ℤ
quick_for s = map (λ (code : ℕ). slice_index_or (row_for s) code (pos 0)) quick_codes

-- the quick row of scale factor k, and all sixteen
unfoldable pub quick_row : ℕ → List ℤ
quick_row k = quick_for (factor_of k)

unfoldable pub quick_tab : List (List ℤ)
quick_tab = map quick_for factors

-- those of all sixteen
unfoldable pub reciprocal_tab : List ℤ
reciprocal_tab = map (λ (s : ℕ). pos ((fixed_one + s - 1) / s)) factors

-- all sixteen rows
unfoldable pub dequant_tab : List (List ℤ)
dequant_tab = map row_for factors
