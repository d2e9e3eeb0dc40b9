-- A candidate's run to its end, whatever the best is: its word, its sums and its predictor.
-- Assumes nothing.
use Prim.Native.Nat.{ℕ, zero, suc, ◌+◌, ◌*◌, ◌<◌}
use mathlib.Core.Path.{◌≡◌, refl, ap}
use mathlib.Core.List.{List, [], ◌∷◌}
use native.Mathlib.Nat.{add-zero}
use native.Mathlib.Omega.{arith}
use lib.IntN.{ℤ}
use lib.Dec.{lit<}
use lib.ListN.{length, get_or, take}
use mir.Syntax.{w16}
use mir.Val.{SFits}
use Rattle.word.specs.Parts.{packed}
use Rattle.lms.specs.Predictor.{at}
use Rattle.lms.specs.declared.QoaLms.{QoaLms}
use Rattle.scale.specs.Tables.{row_of}
use Rattle.trial.specs.Trial.{heard, tried}
use Rattle.trial.proofs.Bounds.{sum_fits, tried_code_lt, tried_fits, tried_heard}
use Rattle.search.specs.Candidate.{start_of, step_of}
use Rattle.search.specs.Reconstruction.{sums_tried, lms_tried}
use Rattle.search.specs.declared.Run.{Run}
use Rattle.search.proofs.Bounds.{Sized, sized_step}
use Rattle.lms.specs.Parts.{HistoryFits}

unfoldable pub whole : ℕ → Run → List ℤ → Run
whole f r [] = r
whole f r (x ∷ xs) = whole f (step_of f x r) xs

pub whole_sized : {B : ℕ} (f i : ℕ) (r : Run) (xs : List ℤ) → f < 16 → Sized B i r → Sized B (i + length xs) (whole f r xs)
unfolding whole
whole_sized f i r [] h b = rw (add-zero i) b
whole_sized f i r (x ∷ xs) h b =
    let more : i + 1 + length xs ≡ i + suc (length xs) = omega arith in
    rw more at (whole_sized f (i + 1) (step_of f x r) xs h (sized_step f x h b))

-- ---- its codes, in order, and its word, which holds the scale factor and then these

unfoldable pub codes_tried : ℕ → QoaLms → List ℤ → List ℕ
codes_tried sf lms [] = []
codes_tried sf lms (x ∷ xs) = (tried lms x sf).code ∷ codes_tried sf (tried lms x sf).lms xs

-- a word grows from its front, too
packed_front : (s : ℕ) (f : ℕ → ℕ) (n : ℕ) → packed s f (suc n) ≡ packed (s * 8 + f 0) (λ i. f (suc i)) n
unfolding packed
packed_front s f zero = refl
packed_front s f (suc n) = ap (λ (w : ℕ). w * 8 + f (suc n)) (packed_front s f n)

whole_packed : (f : ℕ) (r : Run) (xs : List ℤ) → (whole f r xs).word ≡ packed r.word (λ i. get_or (codes_tried f r.lms xs) i 0) (length xs)
unfolding whole codes_tried step_of packed
whole_packed f r [] = refl
whole_packed f r (x ∷ xs) = rw (packed_front r.word (λ i. get_or (codes_tried f r.lms (x ∷ xs)) i 0) (length xs)) (whole_packed f (step_of f x r) xs)

pub run_packed : (f : ℕ) (lms : QoaLms) (xs : List ℤ) → (whole f (start_of lms f) xs).word ≡ packed f (λ i. get_or (codes_tried f lms xs) i 0) (length xs)
unfolding start_of
run_packed f lms xs = whole_packed f (start_of lms f) xs

pub run_lms : (f : ℕ) (r : Run) (xs : List ℤ) → (whole f r xs).lms ≡ lms_tried f r.lms xs
unfolding whole lms_tried step_of
run_lms f r [] = refl
run_lms f r (x ∷ xs) = run_lms f (step_of f x r) xs

-- ---- the run sample by sample: the predictor before sample i is the one that the first i left

pub lms_next : (sf : ℕ) (lms : QoaLms) (xs : List ℤ) (i : ℕ) → i < length xs → lms_tried sf lms (take (suc i) xs) ≡ (tried (lms_tried sf lms (take i xs)) (at xs i) sf).lms
unfolding lms_tried
lms_next sf lms [] i h = absurd (omega arith)
lms_next sf lms (x ∷ xs) zero h = refl
lms_next sf lms (x ∷ xs) (suc i) h = lms_next sf (tried lms x sf).lms xs i (omega arith)

pub code_at : (sf : ℕ) (lms : QoaLms) (xs : List ℤ) (i : ℕ) → i < length xs → get_or (codes_tried sf lms xs) i 0 ≡ (tried (lms_tried sf lms (take i xs)) (at xs i) sf).code
unfolding lms_tried codes_tried
code_at sf lms [] i h = absurd (omega arith)
code_at sf lms (x ∷ xs) zero h = refl
code_at sf lms (x ∷ xs) (suc i) h = code_at sf (tried lms x sf).lms xs i (omega arith)

pub sum_at_lem : (sf : ℕ) (lms : QoaLms) (xs : List ℤ) (i : ℕ) → i < length xs → at (sums_tried sf lms xs) i ≡ (tried (lms_tried sf lms (take i xs)) (at xs i) sf).sum
unfolding lms_tried sums_tried
sum_at_lem sf lms [] i h = absurd (omega arith)
sum_at_lem sf lms (x ∷ xs) zero h = refl
sum_at_lem sf lms (x ∷ xs) (suc i) h = sum_at_lem sf (tried lms x sf).lms xs i (omega arith)

-- each sum and predictor is what a decoder hears of the code
pub run_heard : (sf : ℕ) (lms : QoaLms) (xs : List ℤ) (i : ℕ) → i < length xs
    → record { sample = at (sums_tried sf lms xs) i; lms = lms_tried sf lms (take (suc i) xs) } ≡ heard (lms_tried sf lms (take i xs)) (at (row_of sf) (get_or (codes_tried sf lms xs) i 0))
run_heard sf lms xs i h = rw (sum_at_lem sf lms xs i h, lms_next sf lms xs i h, code_at sf lms xs i h) (tried_heard (lms_tried sf lms (take i xs)) (at xs i) sf)

-- ---- ranges

pub sums_length : (sf : ℕ) (lms : QoaLms) (xs : List ℤ) → length (sums_tried sf lms xs) ≡ length xs
unfolding sums_tried
sums_length sf lms [] = refl
sums_length sf lms (x ∷ xs) = ap suc (sums_length sf (tried lms x sf).lms xs)

pub sums_fit : (sf : ℕ) (lms : QoaLms) (xs : List ℤ) (i : ℕ) → SFits w16 (at (sums_tried sf lms xs) i)
unfolding sums_tried tried
sums_fit sf lms [] i = record { sfits = lit< tt }
sums_fit sf lms (x ∷ xs) zero = sum_fits lms x sf
sums_fit sf lms (x ∷ xs) (suc i) = sums_fit sf (tried lms x sf).lms xs i

pub codes_small : (sf : ℕ) (lms : QoaLms) (xs : List ℤ) (i : ℕ) → get_or (codes_tried sf lms xs) i 0 < 8
unfolding codes_tried
codes_small sf lms [] i = lit< tt
codes_small sf lms (x ∷ xs) zero = tried_code_lt lms x sf
codes_small sf lms (x ∷ xs) (suc i) = codes_small sf (tried lms x sf).lms xs i

pub lms_fits : (sf : ℕ) (lms : QoaLms) (xs : List ℤ) → HistoryFits lms → HistoryFits (lms_tried sf lms xs)
unfolding lms_tried
lms_fits sf lms [] h = h
lms_fits sf lms (x ∷ xs) h = lms_fits sf (tried lms x sf).lms xs (tried_fits x sf h)
