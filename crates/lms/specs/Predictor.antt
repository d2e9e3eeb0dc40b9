-- The predictor, over the integers. What wraps is wrapped once, at the end.
-- Assumes nothing.
use Rattle.std.specs.Prelude.{ℕ, ◌+◌, ◌-◌, ◌*◌, ◌^◌, min, Bool, true, false, List, [], ◌∷◌, length, replicate, ℤ, pos, negsuc, ◌+ℤ◌, ◌-ℤ◌, ◌*ℤ◌, int_lt, nat_lt, slice_index_or, unsigned_abs}
use Rattle.std.specs.Int.Signed.{mag, shr_z}
use Rattle.wrap.specs.Wrap.{wrap32}
use Rattle.word.specs.Below.{below}
use Rattle.lms.specs.declared.QoaLms.{QoaLms}

-- the number at place i of a list, and 0 past its end
abbrev pub at : List ℤ → ℕ → ℤ
at xs i = slice_index_or xs i (pos 0)

-- the predictor of a new encoder
unfoldable pub new_lms : QoaLms
new_lms = record { history = pos 0 ∷ pos 0 ∷ pos 0 ∷ pos 0 ∷ []; weights = pos 0 ∷ pos 0 ∷ negsuc 8191 ∷ pos 16384 ∷ [] }

-- one that is all zero
abbrev pub zero_lms : QoaLms
zero_lms = record { history = replicate 4 (pos 0); weights = replicate 4 (pos 0) }

-- the sum of the four products
unfoldable pub dot : List ℤ → List ℤ → ℤ
dot a b = at a 0 *ℤ at b 0 +ℤ at a 1 *ℤ at b 1 +ℤ (at a 2 *ℤ at b 2 +ℤ at a 3 *ℤ at b 3)

-- the prediction: the wrapped sum of weight times history, shifted right 13 keeping the sign
unfoldable pub predicted : QoaLms → ℤ
predicted lms = shr_z (wrap32 (dot lms.weights lms.history)) (2 ^ 13)

-- the nearest number of 16 bits: from -32768, which is negsuc 32767, to 32767
unfoldable pub clamp16 : ℤ → ℤ
clamp16 (pos n) = pos (min n 32767)
clamp16 (negsuc n) = negsuc (min n 32767)

-- max(0, z - k)
unfoldable pub above : ℤ → ℕ → ℕ
above (pos n) k = n - k
above (negsuc n) k = 0

-- the penalty, before it is squared: max(0, (wrapped sum of squared weights >> 18) - 2303)
unfoldable pub penalty_of : QoaLms → ℕ
penalty_of lms = above (shr_z (wrap32 (dot lms.weights lms.weights)) (2 ^ 18)) 2303

-- a weight gains d, or loses d where its history is negative
abbrev pub pick : Bool → ℤ → ℤ → ℤ
pick true a b = a
pick false a b = b

unfoldable pub stepped : ℤ → ℤ → ℤ → ℤ
stepped weight history d = pick (int_lt history (pos 0)) (weight -ℤ d) (weight +ℤ d)

-- the weight at place i, after a sample whose table value is residual: d is residual / 16, rounded down
unfoldable pub next_weight : QoaLms → ℤ → ℕ → ℤ
next_weight lms residual i = stepped (at lms.weights i) (at lms.history i) (shr_z residual (2 ^ 4))

-- the predictor after that sample: each weight steps, and history moves up one
unfoldable pub updated : QoaLms → ℤ → ℤ → QoaLms
updated lms sample residual = record {
  history = at lms.history 1 ∷ at lms.history 2 ∷ at lms.history 3 ∷ sample ∷ [];
  weights = next_weight lms residual 0 ∷ next_weight lms residual 1 ∷ next_weight lms residual 2 ∷ next_weight lms residual 3 ∷ [];
}

-- a sample's cost: its squared error plus the squared penalty
unfoldable pub cost_of : ℤ → ℤ → ℕ → ℕ
cost_of sample reconstructed penalty = unsigned_abs (sample -ℤ reconstructed) * unsigned_abs (sample -ℤ reconstructed) + penalty * penalty

-- numbers in -32768..32767
unfoldable pub all_short : List ℤ → Bool
all_short xs = below (length xs) (λ i. nat_lt (mag (at xs i)) 32768)

-- histories in 16 bits
unfoldable pub history_rule : QoaLms → Bool
history_rule lms = all_short lms.history
