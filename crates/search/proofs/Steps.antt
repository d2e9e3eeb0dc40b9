-- The definitions of the search one step at a time, as the code takes them.
-- Assumes nothing.
use Prim.Native.Nat.{ℕ, ◌+◌, ◌*◌, ◌-◌, ◌^◌, ◌≤◌, ◌<◌}
use mathlib.Core.Path.{◌≡◌, refl, ap, sym, ◌∙◌}
use mathlib.Core.Bool.{Bool, true, false, cond, true≢false, false≢true}
use mathlib.Core.List.{List, [], ◌∷◌, map}
use native.Mathlib.Omega.{arith}
use native.Mathlib.Nat.{zero-add}
use native.Mathlib.Numerals.{add-one}
use borrow.Author.Tests.{le-ltb, lt-ltb, eqb-true}
use lib.IntN.{ℤ, pos}
use lib.Dec.{ltb, eqb}
use lib.ListN.{length, drop, drop_of_length-le}
use lib.Seq.{drop-cons}
use Rattle.lms.specs.Predictor.{at}
use Rattle.lms.specs.declared.QoaLms.{QoaLms}
use Rattle.trial.specs.declared.Heard.{Heard}
use Rattle.trial.specs.Trial.{tried}
use Rattle.trial.proofs.Bounds.{tried_heard}
use Rattle.search.specs.Candidate.{Best, no_best, leads, Verdict, goes_on, over_best, over_half, Outcome, not_taken, dropped, halved, finished, start_of, step_of, exceeds, beats, verdict, ruled, run_from, candidate, best_with}
use Rattle.search.specs.Search.{first_cost, unheard, trace_from, best_after, leader_of, later_trials, trials_in}
use Rattle.search.specs.Parts.{begun_of, drops}
use Rattle.search.specs.declared.Run.{Run}

-- ---- the limit, a number, says what the best says

pub limit_exceeds : (lms : QoaLms) (b : Best) (rank : ℕ) → rank < 2 ^ 64 → exceeds rank b ≡ ltb (leader_of lms b).run.rank rank
unfolding exceeds leader_of
limit_exceeds lms no_best rank h = sym (le-ltb (2 ^ 64 - 1) rank (omega arith))
limit_exceeds lms (leads f r) rank h = refl

pub limit_beats : (lms : QoaLms) (b : Best) (rank : ℕ) → rank < 2 ^ 64 - 1 → beats rank b ≡ ltb rank (leader_of lms b).run.rank
unfolding beats leader_of
limit_beats lms no_best rank h = sym (lt-ltb _ _ h)
limit_beats lms (leads f r) rank h = refl

-- ---- a candidate's verdict

-- The two ways to be dropped, at sample `i` with `rank`.
pub data Lost (i rank : ℕ) : Outcome → Type 0 where
  by_best : Lost i rank (dropped i rank)
  by_half : i ≡ 10 → Lost i rank (halved rank)

-- The verdict, and the code's test, by the three comparisons that they are made of.
by_tests : Bool → Bool → Bool → Verdict
by_tests p q t = cond p over_best (cond q (cond t over_half goes_on) goes_on)

drop_tests : Bool → Bool → Bool → Bool
drop_tests p q t = cond p true (cond q t false)

kept_tests : (p q t : Bool) (i rank : ℕ) (o : Outcome) → drop_tests p q t ≡ false → ruled (by_tests p q t) i rank o ≡ o
unfolding by_tests drop_tests
kept_tests true q t i rank o e = absurd (true≢false e)
kept_tests false false t i rank o e = refl
kept_tests false true false i rank o e = refl
kept_tests false true true i rank o e = absurd (true≢false e)

lost_tests : (p q t : Bool) (i rank : ℕ) (o : Outcome) → eqb i 10 ≡ q → drop_tests p q t ≡ true → Lost i rank (ruled (by_tests p q t) i rank o)
unfolding by_tests drop_tests
lost_tests true q t i rank o ten e = by_best
lost_tests false true true i rank o ten e = by_half (eqb-true i 10 ten)
lost_tests false true false i rank o ten e = absurd (false≢true e)
lost_tests false false t i rank o ten e = absurd (false≢true e)

module _ (lms : QoaLms) (b : Best) (i rank : ℕ) (h : rank < 2 ^ 63) where
  verdict_tests : verdict b i rank ≡ by_tests (ltb (leader_of lms b).run.rank rank) (eqb i 10) (ltb (leader_of lms b).run.rank (2 * rank))
  unfolding verdict by_tests
  verdict_tests = rw (limit_exceeds lms b rank (omega arith), limit_exceeds lms b (2 * rank) (omega arith))

  pub kept : (o : Outcome) → drops (leader_of lms b).run.rank i rank ≡ false → ruled (verdict b i rank) i rank o ≡ o
  unfolding drops drop_tests
  kept o e = rw verdict_tests (kept_tests _ _ _ i rank o e)

  pub lost : (o : Outcome) → drops (leader_of lms b).run.rank i rank ≡ true → Lost i rank (ruled (verdict b i rank) i rank o)
  unfolding drops drop_tests
  lost o e = rw verdict_tests (lost_tests _ _ _ i rank o refl e)

-- ---- a candidate, sample by sample

pub run_step : (f : ℕ) (b : Best) (i : ℕ) (r : Run) (xs : List ℤ) → i < length xs
    → run_from f b i r (drop i xs) ≡ ruled (verdict b i (step_of f (at xs i) r).rank) i (step_of f (at xs i) r).rank (run_from f b (i + 1) (step_of f (at xs i) r) (drop (i + 1) xs))
unfolding run_from
run_step f b i r xs h = ap (run_from f b i r) (drop-cons xs i (pos 0) h) ∙ rw add-one

pub run_end : (f : ℕ) (b : Best) (i : ℕ) (r : Run) (xs : List ℤ) → length xs ≤ i → run_from f b i r (drop i xs) ≡ finished r
unfolding run_from
run_end f b i r xs h = ap (run_from f b i r) (drop_of_length-le xs h)

-- The rank after the first sample is that sample's cost.
pub first_rank : (lms : QoaLms) (x : ℤ) (f : ℕ) → (step_of f x (start_of lms f)).rank ≡ first_cost lms x f
unfolding step_of start_of first_cost
first_rank lms x f = zero-add _

-- A candidate that begins with the kept trial's code and cost begins as the definition says.
pub begun : (lms : QoaLms) (x : ℤ) (f : ℕ) → begun_of lms f (tried lms x f).code (first_cost lms x f) ≡ step_of f x (start_of lms f)
unfolding begun_of step_of start_of first_cost
begun lms x f = rw (zero-add, ← ap (λ (h : Heard). h.lms) (tried_heard lms x f))

-- A slice's candidate is taken up where its first cost does not exceed the best.
pub taken_up : (lms : QoaLms) (xs : List ℤ) (b : Best) (f : ℕ) → 0 < length xs → exceeds (first_cost lms (at xs 0) f) b ≡ false
    → candidate lms xs b f ≡ run_from f b 1 (step_of f (at xs 0) (start_of lms f)) (drop 1 xs)
unfolding candidate
taken_up lms [] b f h e = absurd (omega arith)
taken_up lms (x ∷ xs) b f h e = rw (first_rank, e)

pub passed_over : (lms : QoaLms) (xs : List ℤ) (b : Best) (f : ℕ) → 0 < length xs → exceeds (first_cost lms (at xs 0) f) b ≡ true
    → candidate lms xs b f ≡ not_taken (first_cost lms (at xs 0) f)
unfolding candidate
passed_over lms [] b f h e = absurd (omega arith)
passed_over lms (x ∷ xs) b f h e = rw (first_rank, e)

-- ---- the search, candidate by candidate

-- Those behind the end change nothing and try nothing.
pub unheard_best : (lms : QoaLms) (xs : List ℤ) (b : Best) (fs : List ℕ) → best_after b (map (unheard lms xs b) fs) ≡ b
unfolding best_after unheard best_with
unheard_best lms xs b [] = refl
unheard_best lms xs b (f ∷ fs) = unheard_best lms xs b fs

pub unheard_trials : (lms : QoaLms) (xs : List ℤ) (n : ℕ) (b : Best) (fs : List ℕ) → trials_in n (map (unheard lms xs b) fs) ≡ 0
unfolding trials_in unheard later_trials
unheard_trials lms xs n b [] = refl
unheard_trials lms xs n b (f ∷ fs) = omega (arith, unheard_trials lms xs n b fs)

-- What is left of the search: the best at its end, and the trials still to be made.
pub record Left (lms : QoaLms) (xs : List ℤ) (b : Best) (fs : List ℕ) (end : Best) (more : ℕ) : Type 0 where
  pub best : best_after b (trace_from lms xs b fs) ≡ end
  pub trials : trials_in (length xs) (trace_from lms xs b fs) ≡ more

module _ (lms : QoaLms) (xs : List ℤ) (b : Best) (f : ℕ) (fs : List ℕ) where
  abbrev pub On : Best → ℕ → Type 0
  On next more = Left lms xs b (f ∷ fs) (best_after next (trace_from lms xs next fs)) (more + trials_in (length xs) (trace_from lms xs next fs))

  pub left_ends : (c : ℕ) → candidate lms xs b f ≡ not_taken c → Left lms xs b (f ∷ fs) b 0
  unfolding trace_from best_after trials_in best_with later_trials
  left_ends c e = record { best = rw e (unheard_best lms xs b fs); trials = rw e (omega (arith, unheard_trials lms xs (length xs) b fs)) }

  lost_on : {i rank : ℕ} (o : Outcome) → candidate lms xs b f ≡ o → Lost i rank o → On b i
  unfolding trace_from best_after trials_in best_with later_trials
  lost_on o e by_best = record { best = rw e refl; trials = rw e refl }
  lost_on o e (by_half ten) = record { best = rw e refl; trials = rw (e, ten) refl }

  pub left_lost : {i rank : ℕ} → Lost i rank (candidate lms xs b f) → On b i
  left_lost l = lost_on (candidate lms xs b f) refl l

  left_finished : (r : Run) → candidate lms xs b f ≡ finished r → On (best_with b f (finished r)) (length xs - 1)
  unfolding trace_from best_after trials_in later_trials
  left_finished r e = record { best = rw e; trials = rw e }

  pub left_won : (r : Run) → candidate lms xs b f ≡ finished r → beats r.rank b ≡ true → On (leads f r) (length xs - 1)
  unfolding best_with
  left_won r e w = rw w at (left_finished r e)

  pub left_not_lower : (r : Run) → candidate lms xs b f ≡ finished r → beats r.rank b ≡ false → On b (length xs - 1)
  unfolding best_with
  left_not_lower r e w = rw w at (left_finished r e)
