-- The rules of the tables that the definitions state, each proved over the whole table.
-- Assumes nothing.
use Rattle.std.proofs.Common.{◌≡◌, ℕ, ◌+◌, ◌-◌, ◌*◌, ◌^◌, ◌<◌, ◌≤◌, true, ltb, leb, [], get_or, refl, ltb-true, leb-true}
use Rattle.scale.specs.Tables.{factor_of, factors, row_for, row_of}
use Rattle.scale.proofs.Table.{agree, entry}
use Rattle.scale.specs.Parts.{dequant_tab}

-- row k has the s whose double is nearest to the fourth root of 16 (k + 1)^11
pub scale_low : (k : ℕ) → k < 16 → (2 * factor_of k - 1) ^ 4 ≤ 16 * (k + 1) ^ 11
unfolding factor_of factors
scale_low k h = leb-true _ _ (agree (λ i. leb ((2 * factor_of i - 1) ^ 4) (16 * (i + 1) ^ 11)) (λ i. true) 16 refl k h)

pub scale_high : (k : ℕ) → k < 16 → 16 * (k + 1) ^ 11 < (2 * factor_of k + 1) ^ 4
unfolding factor_of factors
scale_high k h = ltb-true _ _ (agree (λ i. ltb (16 * (i + 1) ^ 11) ((2 * factor_of i + 1) ^ 4)) (λ i. true) 16 refl k h)

-- the table's row k is that of scale factor k
pub tab_row : (k : ℕ) → k < 16 → get_or dequant_tab k [] ≡ row_of k
unfolding dequant_tab row_of row_for factor_of factors
tab_row k h = entry row_of [] 16 k h
