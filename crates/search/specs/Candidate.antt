-- One candidate of the search: its run over a slice's samples, and how it ends. A trial is cited by name only.
-- Assumes nothing.
use Rattle.std.specs.Prelude.{ℕ, ◌+◌, ◌*◌, Bool, true, false, cond, List, [], ◌∷◌, ℤ, ltb, eqb}
use Rattle.lms.specs.declared.QoaLms.{QoaLms}
use Rattle.trial.specs.Trial.{tried}
use Rattle.search.specs.declared.Run.{Run}

-- ---- its run

-- before its first sample: no cost yet, and a word that holds the scale factor alone
unfoldable pub start_of : QoaLms → ℕ → Run
start_of lms sf = record { rank = 0; word = sf; lms = lms }

-- after one sample more: the cost is added to the rank, and the code is pushed into the word
unfoldable pub step_of : ℕ → ℤ → Run → Run
step_of sf x r = record {
  rank = r.rank + (tried r.lms x sf).cost;
  word = r.word * 8 + (tried r.lms x sf).code;
  lms = (tried r.lms x sf).lms;
}

-- ---- against the best

-- the best so far: the scale factor that leads, with its run, or none before the first candidate has finished
pub data Best : Type 0 where
  no_best : Best
  leads : ℕ → Run → Best

-- a rank exceeds the best
unfoldable pub exceeds : ℕ → Best → Bool
exceeds rank no_best = false
exceeds rank (leads f r) = ltb r.rank rank

-- a rank is strictly below the best
unfoldable pub beats : ℕ → Best → Bool
beats rank no_best = true
beats rank (leads f r) = ltb rank r.rank

-- what is said of a candidate at a sample after its first; where both drops apply, the plain one is named
pub data Verdict : Type 0 where
  goes_on over_best over_half : Verdict

-- its running rank exceeds the best, or, at the eleventh sample (number 10), twice its rank does
unfoldable pub verdict : Best → ℕ → ℕ → Verdict
verdict b i rank = cond (exceeds rank b) over_best (cond (eqb i 10) (cond (exceeds (2 * rank) b) over_half goes_on) goes_on)

-- ---- how it ends

-- not taken up, with its first cost; dropped at a sample, with its rank there; dropped by the half rule, with its rank; finished, with its run
pub data Outcome : Type 0 where
  not_taken : ℕ → Outcome
  dropped : ℕ → ℕ → Outcome
  halved : ℕ → Outcome
  finished : Run → Outcome

abbrev pub ruled : Verdict → ℕ → ℕ → Outcome → Outcome
ruled goes_on i rank o = o
ruled over_best i rank o = dropped i rank
ruled over_half i rank o = halved rank

-- from sample i on, with the best that it met, its run so far and the samples left
unfoldable pub run_from : ℕ → Best → ℕ → Run → List ℤ → Outcome
run_from sf b i r [] = finished r
run_from sf b i r (x ∷ xs) = ruled (verdict b i (step_of sf x r).rank) i (step_of sf x r).rank (run_from sf b (i + 1) (step_of sf x r) xs)

-- the whole of it: one whose first cost exceeds the best is not taken up
unfoldable pub candidate : QoaLms → List ℤ → Best → ℕ → Outcome
candidate lms [] b sf = finished (start_of lms sf)
candidate lms (x ∷ xs) b sf =
    cond (exceeds (step_of sf x (start_of lms sf)).rank b)
    (not_taken (step_of sf x (start_of lms sf)).rank)
    (run_from sf b 1 (step_of sf x (start_of lms sf)) xs)

-- the best after it: a finished candidate wins only if strictly below the best
unfoldable pub best_with : Best → ℕ → Outcome → Best
best_with b sf (not_taken c) = b
best_with b sf (dropped i rank) = b
best_with b sf (halved rank) = b
best_with b sf (finished r) = cond (beats r.rank b) (leads sf r) b
