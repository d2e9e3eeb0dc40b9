-- FORMAT.md's checked numbers, proved of the definitions, in its order.
-- Assumes nothing.
use mathlib.Core.Path.{◌≡◌, refl}
use mathlib.Core.List.{List, [], ◌∷◌}
use Prim.Native.Nat.{ℕ, ◌*◌, ◌<◌}
use lib.IntN.{ℤ, pos, negsuc}
use Rattle.wrap.specs.Wrap.{modulo}
use Rattle.lms.specs.Predictor.{above, clamp16, dot, new_lms, next_weight, penalty_of, predicted, stepped, updated}
use Rattle.lms.specs.declared.QoaLms.{QoaLms}
use Rattle.scale.specs.Division.{divided_by, shifted, sign_of}
use Rattle.scale.specs.Tables.{factor_of, factors, reciprocal_of, row_for, row_of}
use Rattle.trial.specs.Trial.{heard, sample_of}
use Rattle.slice.specs.Slice.{sample_at, state_after}
use native.Mathlib.Omega.{arith}
use mathlib.Core.Option.{Option, none, some}
use Rattle.refusal.specs.Rules.{first_of}
use Rattle.refusal.proofs.Rules.{fires, none_fires}
use Rattle.word.proofs.Tests.{tests}
use Rattle.format.specs.Format.{state_end}
use Rattle.format.specs.Header.{size_slices, header_rules}

-- D1-D3: divide 32767, 32768, -32768 at scale factor 0. D4, D5: divide 1, -1 at 15
pub D1 : divided_by (pos 32767) 0 ≡ pos 32767
unfolding divided_by shifted sign_of reciprocal_of factor_of factors modulo
D1 = refl

-- the product wraps: -32766
pub D2 : divided_by (pos 32768) 0 ≡ negsuc 32765
unfolding divided_by shifted sign_of reciprocal_of factor_of factors modulo
D2 = refl

pub D3 : divided_by (negsuc 32767) 0 ≡ negsuc 32767
unfolding divided_by shifted sign_of reciprocal_of factor_of factors modulo
D3 = refl

pub D4 : divided_by (pos 1) 15 ≡ pos 1
unfolding divided_by shifted sign_of reciprocal_of factor_of factors modulo
D4 = refl

pub D5 : divided_by (negsuc 0) 15 ≡ negsuc 0
unfolding divided_by shifted sign_of reciprocal_of factor_of factors modulo
D5 = refl

-- P1: all weights and histories -32768
abbrev pub lowest : List ℤ
lowest = negsuc 32767 ∷ negsuc 32767 ∷ negsuc 32767 ∷ negsuc 32767 ∷ []

pub P1 : predicted (record { history = lowest; weights = lowest }) ≡ pos 0
unfolding predicted dot modulo
P1 = refl

-- P2: the penalty of the weights 32767, 0, 0, 0, and its square
abbrev pub one_large : QoaLms
one_large = record { history = []; weights = pos 32767 ∷ pos 0 ∷ pos 0 ∷ pos 0 ∷ [] }

pub P2 : (penalty_of one_large ≡ 1792) × (penalty_of one_large * penalty_of one_large ≡ 3211264)
unfolding penalty_of above dot modulo
P2 = (refl, refl)

-- S1: the slice FE then seven 00, in a new state, starts -14336, -25568
abbrev pub first_loud : ℕ
first_loud = 0xFE00_0000_0000_0000

pub S1 : (sample_at first_loud new_lms 0 ≡ negsuc 14335) × (sample_at first_loud new_lms 1 ≡ negsuc 25567)
unfolding sample_at state_after heard sample_of predicted dot modulo clamp16 row_of row_for factor_of factors updated next_weight stepped new_lms
S1 = (refl, refl)

-- the number that refuses a header with c channels and this size, if one does
abbrev pub refusal_of : ℕ → ℕ → ℕ → ℕ → Option ℕ
refusal_of rate n c size = first_of (header_rules (record { channels = c; rate = rate; samples = n; size = size }))

-- H1: c=1, size 24 / 25 / 2079 / 2080. H2: c=2, size 48 / 56. At every rate but 0 and every number of samples
module _ (rate n : ℕ) (some_rate : 0 < rate) where
  pub H1 : (refusal_of rate n 1 24 ≡ some 3) × (refusal_of rate n 1 25 ≡ none) × (refusal_of rate n 1 2079 ≡ none) × (refusal_of rate n 1 2080 ≡ some 3)
  unfolding header_rules size_slices state_end
  H1 = (fires 2 _ 3 (omega (arith, tests)), none_fires _ (omega (arith, tests)), none_fires _ (omega (arith, tests)), fires 4 _ 3 (omega (arith, tests)))

  pub H2 : (refusal_of rate n 2 48 ≡ some 3) × (refusal_of rate n 2 56 ≡ none)
  unfolding header_rules size_slices state_end
  H2 = (fires 3 _ 3 (omega (arith, tests)), none_fires _ (omega (arith, tests)))
