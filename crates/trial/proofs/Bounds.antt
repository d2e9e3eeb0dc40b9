-- The ranges of what is heard and tried, and that what is tried is heard of its code.
-- Assumes nothing.
use mathlib.Core.Path.{◌≡◌, refl}
use Prim.Native.Nat.{ℕ, ◌+◌, ◌^◌, ◌≤◌, ◌<◌}
use native.Mathlib.Nat.{add-le-add, le_trans, lt_of_le_of_lt, mul-le-mul}
use lib.Dec.{lit<}
use lib.IntN.{ℤ, nat_abs, ◌-ℤ◌}
use mir.Syntax.{w16}
use mir.Val.{SFits}
use Rattle.wrap.proofs.Integers.{abs_fits, abs_sub}
use Rattle.lms.specs.Predictor.{at, cost_of}
use Rattle.lms.specs.declared.QoaLms.{QoaLms}
use Rattle.lms.proofs.Bounds.{clamp16_fits, penalty_small, update_fits, update_within}
use Rattle.scale.specs.Tables.{row_of}
use Rattle.scale.proofs.Bounds.{code_lt, row_small}
use Rattle.trial.specs.Trial.{code_tried, heard, sample_of, sum_tried, tried, value_tried}
use Rattle.lms.specs.Parts.{HistoryFits, WeightsWithin}

-- ---- what is heard

pub sample_fits : (lms : QoaLms) (value : ℤ) → SFits w16 (sample_of lms value)
unfolding sample_of
sample_fits lms value = clamp16_fits _

pub heard_within : {B : ℕ} {lms : QoaLms} (value : ℤ) → nat_abs value ≤ 14336 → WeightsWithin B lms → WeightsWithin (B + 896) (heard lms value).lms
unfolding heard
heard_within {B} {lms} value h w = update_within (sample_of lms value) value h w

pub heard_fits : {lms : QoaLms} (value : ℤ) → HistoryFits lms → HistoryFits (heard lms value).lms
unfolding heard
heard_fits {lms} value f = update_fits (sample_of lms value) value (sample_fits lms value) f

-- ---- what is tried

pub code_tried_lt : (lms : QoaLms) (sample : ℤ) (sf : ℕ) → code_tried lms sample sf < 8
unfolding code_tried
code_tried_lt lms sample sf = code_lt _

pub value_small : (lms : QoaLms) (sample : ℤ) (sf : ℕ) → sf < 16 → nat_abs (value_tried lms sample sf) ≤ 14336
unfolding value_tried
value_small lms sample sf h = row_small sf (code_tried lms sample sf) h (code_tried_lt lms sample sf)

-- what is tried is what a decoder hears of its code
pub tried_heard : (lms : QoaLms) (sample : ℤ) (sf : ℕ) → record { sample = (tried lms sample sf).sum; lms = (tried lms sample sf).lms } ≡ heard lms (at (row_of sf) (tried lms sample sf).code)
unfolding tried sum_tried value_tried heard sample_of
tried_heard lms sample sf = refl

pub tried_code_lt : (lms : QoaLms) (sample : ℤ) (sf : ℕ) → (tried lms sample sf).code < 8
unfolding tried
tried_code_lt lms sample sf = code_tried_lt lms sample sf

pub sum_fits : (lms : QoaLms) (sample : ℤ) (sf : ℕ) → SFits w16 (sum_tried lms sample sf)
unfolding sum_tried
sum_fits lms sample sf = clamp16_fits _

error_small : (x y : ℤ) → SFits w16 x → SFits w16 y → nat_abs (x -ℤ y) ≤ 2 ^ 16
error_small x y f g = le_trans (abs_sub x y) (add-le-add (abs_fits f) (abs_fits g))

-- a squared error of at most 2^32, and a squared penalty of at most 5888^2
pub tried_cost_lt : (lms : QoaLms) (sample : ℤ) (sf : ℕ) → SFits w16 sample → (tried lms sample sf).cost < 2 ^ 33
unfolding tried cost_of
tried_cost_lt lms sample sf f =
    let e = error_small sample (sum_tried lms sample sf) f (sum_fits lms sample sf) in
    lt_of_le_of_lt (add-le-add (mul-le-mul e e) (mul-le-mul (penalty_small lms) (penalty_small lms))) (lit< tt)

pub tried_within : {B : ℕ} {lms : QoaLms} (sample : ℤ) (sf : ℕ) → sf < 16 → WeightsWithin B lms → WeightsWithin (B + 896) (tried lms sample sf).lms
unfolding tried
tried_within {B} {lms} sample sf h w = update_within (sum_tried lms sample sf) (value_tried lms sample sf) (value_small lms sample sf h) w

pub tried_fits : {lms : QoaLms} (sample : ℤ) (sf : ℕ) → HistoryFits lms → HistoryFits (tried lms sample sf).lms
unfolding tried
tried_fits {lms} sample sf f = update_fits (sum_tried lms sample sf) (value_tried lms sample sf) (sum_fits lms sample sf) f
