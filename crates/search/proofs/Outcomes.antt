-- What a candidate's outcome tells, of a candidate whose first cost is `a` and whose whole run is `w`, in a slice of `n` samples.
-- Assumes nothing.
use Prim.Native.Nat.{ℕ, suc, ◌+◌, ◌*◌, ◌-◌, ◌≤◌, ◌<◌}
use mathlib.Core.Path.{◌≡◌, refl, ap}
use mathlib.Core.Bool.{Bool, true, false, cond, false≢true}
use mathlib.Core.List.{List, [], ◌∷◌}
use native.Mathlib.Omega.{arith}
use borrow.Author.Tests.{eqb-true}
use lib.IntN.{ℤ}
use lib.Dec.{eqb}
use lib.ListN.{length}
use Rattle.lms.specs.declared.QoaLms.{QoaLms}
use Rattle.search.specs.Candidate.{Best, no_best, goes_on, over_best, over_half, Outcome, not_taken, dropped, halved, finished, start_of, step_of, exceeds, verdict, ruled, run_from, candidate}
use Rattle.search.specs.Search.{first_cost, later_trials}
use Rattle.search.specs.declared.Run.{Run}
use Rattle.search.proofs.Runs.{whole}
use Rattle.search.proofs.Steps.{first_rank}

-- ---- the rank only grows

step_grows : (f : ℕ) (x : ℤ) (r : Run) → r.rank ≤ (step_of f x r).rank
unfolding step_of
step_grows f x r = omega arith

whole_grows : (f : ℕ) (r : Run) (xs : List ℤ) → r.rank ≤ (whole f r xs).rank
unfolding whole
whole_grows f r [] = omega arith
whole_grows f r (x ∷ xs) = omega (arith, step_grows f x r, whole_grows f (step_of f x r) xs)

-- ---- each outcome says which rank exceeded the best, and a finished run is the whole one

unfoldable pub Fair : Best → ℕ → Run → ℕ → Outcome → Type 0
Fair b a w n (not_taken c) = (exceeds c b ≡ true) × (c ≤ w.rank) × (c ≡ a)
Fair b a w n (dropped i rank) = (exceeds rank b ≡ true) × (rank ≤ w.rank) × (i < n)
Fair b a w n (halved rank) = (exceeds (2 * rank) b ≡ true) × (rank ≤ w.rank) × (10 < n)
Fair b a w n (finished r) = r ≡ w

-- By the three tests of a verdict.
fair_tests : (b : Best) (a : ℕ) (w : Run) (n i rank : ℕ) (o : Outcome) (p q t : Bool) → exceeds rank b ≡ p → eqb i 10 ≡ q → exceeds (2 * rank) b ≡ t → rank ≤ w.rank → i < n → Fair b a w n o
    → Fair b a w n (ruled (cond p over_best (cond q (cond t over_half goes_on) goes_on)) i rank o)
unfolding Fair
fair_tests b a w n i rank o true q t ep eq et h l fair = (ep, h, l)
fair_tests b a w n i rank o false false t ep eq et h l fair = fair
fair_tests b a w n i rank o false true true ep eq et h l fair = (et, h, omega (arith, eqb-true i 10 eq))
fair_tests b a w n i rank o false true false ep eq et h l fair = fair

fair_run : (f : ℕ) (b : Best) (a n i : ℕ) (r : Run) (xs : List ℤ) → i + length xs ≡ n → Fair b a (whole f r xs) n (run_from f b i r xs)
unfolding run_from whole verdict Fair
fair_run f b a n i r [] e = refl
fair_run f b a n i r (x ∷ xs) e =
    fair_tests b a (whole f (step_of f x r) xs) n i (step_of f x r).rank (run_from f b (i + 1) (step_of f x r) xs) _ _ _ refl refl refl
    (whole_grows f (step_of f x r) xs) (omega arith) (fair_run f b a n (i + 1) (step_of f x r) xs (omega arith))

pub fair : (lms : QoaLms) (x : ℤ) (xs : List ℤ) (b : Best) (f : ℕ) → Fair b (first_cost lms x f) (whole f (start_of lms f) (x ∷ xs)) (length (x ∷ xs)) (candidate lms (x ∷ xs) b f)
unfolding candidate whole Fair
fair lms x xs b f = by (exceeds (step_of f x (start_of lms f)).rank b) refl
  where
    by : (t : Bool) → exceeds (step_of f x (start_of lms f)).rank b ≡ t
        → Fair b (first_cost lms x f) (whole f (step_of f x (start_of lms f)) xs) (suc (length xs)) (cond t (not_taken (step_of f x (start_of lms f)).rank) (run_from f b 1 (step_of f x (start_of lms f)) xs))
    by true e = (e, whole_grows f (step_of f x (start_of lms f)) xs, first_rank lms x f)
    by false e = fair_run f b (first_cost lms x f) (suc (length xs)) 1 (step_of f x (start_of lms f)) xs (omega arith)

-- Where there is no best yet, a candidate finishes.
pub none_finishes : (a : ℕ) (w : Run) (n : ℕ) (o : Outcome) → Fair no_best a w n o → o ≡ finished w
unfolding Fair exceeds
none_finishes a w n (not_taken c) h = absurd (false≢true h.0)
none_finishes a w n (dropped i rank) h = absurd (false≢true h.0)
none_finishes a w n (halved rank) h = absurd (false≢true h.0)
none_finishes a w n (finished r) h = ap finished h

pub later_most : (b : Best) (a : ℕ) (w : Run) (n : ℕ) (o : Outcome) → Fair b a w n o → later_trials n o ≤ n - 1
unfolding Fair later_trials
later_most b a w n (not_taken c) h = omega arith
later_most b a w n (dropped i rank) h = omega arith
later_most b a w n (halved rank) h = omega arith
later_most b a w n (finished r) h = omega arith
