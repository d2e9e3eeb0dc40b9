-- Choosing a scale factor: all sixteen candidates in their order, how each ended, and what is read off that.
-- Assumes nothing.
use Rattle.std.specs.Prelude.{ℕ, zero, suc, ◌+◌, ◌-◌, ◌*◌, ◌^◌, Bool, cond, List, [], ◌∷◌, map, ℤ, ltb, length}
use Rattle.word.specs.Word.{filled}
use Rattle.word.specs.Table.{table}
use Rattle.lms.specs.Predictor.{at}
use Rattle.lms.specs.declared.QoaLms.{QoaLms}
use Rattle.trial.specs.Trial.{tried}
use Rattle.search.specs.Candidate.{Best, no_best, leads, Outcome, not_taken, dropped, halved, finished, candidate, best_with}
use Rattle.search.specs.declared.Leader.{Leader}
use Rattle.search.specs.declared.Encoded.{Encoded}

-- ---- the order of the candidates

-- the cost of a sample at a scale factor
unfoldable pub first_cost : QoaLms → ℤ → ℕ → ℕ
first_cost lms x sf = (tried lms x sf).cost

-- g costs more than f
unfoldable pub dearer : (ℕ → ℕ) → ℕ → ℕ → Bool
dearer cost f g = ltb (cost f) (cost g)

-- f goes before the first of the list that costs more, so behind those that cost the same
unfoldable pub insert : (ℕ → ℕ) → ℕ → List ℕ → List ℕ
insert cost f [] = f ∷ []
insert cost f (g ∷ gs) = cond (dearer cost f g) (f ∷ g ∷ gs) (g ∷ insert cost f gs)

-- 0, 1, .. below n, ordered by cost, ties by the lower number
unfoldable pub ordered : (ℕ → ℕ) → ℕ → List ℕ
ordered cost zero = []
ordered cost (suc n) = insert cost n (ordered cost n)

-- ---- how each candidate ended

-- a candidate, the best that it met, and how it ended
pub record Entry : Type 0 where
  pub sf : ℕ
  pub met : Best
  pub outcome : Outcome

-- one that comes after the end of the search
unfoldable pub unheard : QoaLms → List ℤ → Best → ℕ → Entry
unheard lms xs b f = record { sf = f; met = b; outcome = not_taken (first_cost lms (at xs 0) f) }

-- one that is not taken up ends the search
abbrev pub onward : Outcome → List Entry → List Entry → List Entry
onward (not_taken c) ended later = ended
onward (dropped i rank) ended later = later
onward (halved rank) ended later = later
onward (finished r) ended later = later

-- the candidates in turn, from a best on
unfoldable pub trace_from : QoaLms → List ℤ → Best → List ℕ → List Entry
trace_from lms xs b [] = []
trace_from lms xs b (f ∷ fs) =
    record { sf = f; met = b; outcome = candidate lms xs b f }
    ∷ onward (candidate lms xs b f) (map (unheard lms xs b) fs) (trace_from lms xs (best_with b f (candidate lms xs b f)) fs)

-- the search of a slice: the sixteen, ordered by the first sample's cost, from no best
unfoldable pub trace_of : QoaLms → List ℤ → List Entry
trace_of lms xs = trace_from lms xs no_best (ordered (first_cost lms (at xs 0)) 16)

-- ---- the choice

unfoldable pub best_after : Best → List Entry → Best
best_after b [] = b
best_after b (t ∷ ts) = best_after (best_with b t.sf t.outcome) ts

unfoldable pub searched : QoaLms → List ℤ → Best
searched lms xs = best_after no_best (trace_of lms xs)

-- the best as a number and a run; for none the largest rank there is, which no rank exceeds
unfoldable pub leader_of : QoaLms → Best → Leader
leader_of lms no_best = record { sf = 0; run = record { rank = 2 ^ 64 - 1; word = 0; lms = lms } }
leader_of lms (leads f r) = record { sf = f; run = r }

unfoldable pub chosen : QoaLms → List ℤ → Leader
chosen lms xs = leader_of lms (searched lms xs)

-- ---- the number of trials

-- those of a candidate after the first sample's, in a slice of n samples; the dropping one counts
unfoldable pub later_trials : ℕ → Outcome → ℕ
later_trials n (not_taken c) = 0
later_trials n (dropped i rank) = i
later_trials n (halved rank) = 10
later_trials n (finished r) = n - 1

unfoldable pub trials_in : ℕ → List Entry → ℕ
trials_in n [] = 0
trials_in n (t ∷ ts) = later_trials n t.outcome + trials_in n ts

-- sixteen for the first sample, and the later ones
unfoldable pub trials_of : QoaLms → List ℤ → ℕ
trials_of lms xs = 16 + trials_in (length xs) (trace_of lms xs)

-- ---- the slice

-- the samples of one channel: n of them, from a place on, a stride apart
unfoldable pub strided : ℕ → List ℤ → ℕ → ℕ → List ℤ
strided n samples start stride = table n (λ i. at samples (start + i * stride))

-- the chosen candidate's word, shifted left 3 bits per missing sample, its scale factor, and the predictor as its run left it
unfoldable pub encoded_slice : QoaLms → List ℤ → Encoded
encoded_slice lms xs = record {
  word = filled (length xs) (chosen lms xs).run.word;
  sf = (chosen lms xs).sf;
  lms = (chosen lms xs).run.lms;
  trials = trials_of lms xs;
}
