-- The search always finds one of the sixteen, with its whole run; and how many trials it makes at most.
-- Assumes nothing.
use Prim.Native.Nat.{ℕ, ◌*◌, ◌-◌, ◌≤◌, ◌<◌}
use mathlib.Core.Path.{◌≡◌, refl}
use mathlib.Core.Bool.{Bool, true, false, cond}
use mathlib.Core.List.{List, [], ◌∷◌, map}
use native.Mathlib.Omega.{arith}
use native.Mathlib.Nat.{suc-mul}
use lib.IntN.{ℤ}
use lib.ListN.{length}
use Rattle.lms.specs.declared.QoaLms.{QoaLms}
use Rattle.search.specs.Candidate.{Best, no_best, leads, Outcome, not_taken, dropped, halved, finished, start_of, beats, candidate, best_with}
use Rattle.search.specs.Search.{first_cost, ordered, Entry, unheard, onward, trace_from, trace_of, best_after, searched, leader_of, chosen, trials_in, trials_of}
use Rattle.search.specs.declared.Run.{Run}
use Rattle.search.proofs.Outcomes.{Fair, fair, none_finishes, later_most}
use Rattle.search.proofs.Runs.{whole}
use Rattle.search.proofs.Sorting.{All, ordered_below, ordered_length}
use Rattle.search.proofs.Steps.{unheard_best, unheard_trials}

-- ---- the best, once there is one, is one of the sixteen with its whole run

abbrev Won : QoaLms → List ℤ → Best → Type 0
Won lms xs no_best = ⊥
Won lms xs (leads f r) = (f < 16) × (r ≡ whole f (start_of lms f) xs)

won_by : (lms : QoaLms) (xs : List ℤ) (b : Best) (f : ℕ) (r : Run) (t : Bool) → f < 16 → r ≡ whole f (start_of lms f) xs → Won lms xs b → Won lms xs (cond t (leads f r) b)
won_by lms xs b f r true h e o = (h, e)
won_by lms xs b f r false h e o = o

won_after : (lms : QoaLms) (xs : List ℤ) (b : Best) (a n f : ℕ) (o : Outcome) → f < 16 → Fair b a (whole f (start_of lms f) xs) n o → Won lms xs b → Won lms xs (best_with b f o)
unfolding best_with Fair
won_after lms xs b a n f (not_taken c) h e w = w
won_after lms xs b a n f (dropped i rank) h e w = w
won_after lms xs b a n f (halved rank) h e w = w
won_after lms xs b a n f (finished r) h e w = won_by lms xs b f r (beats r.rank b) h e w

won_onward : (lms : QoaLms) (xs : List ℤ) (b : Best) (f : ℕ) (fs : List ℕ) (o : Outcome) (later : List Entry) → Won lms xs (best_with b f o) → Won lms xs (best_after (best_with b f o) later)
    → Won lms xs (best_after (best_with b f o) (onward o (map (unheard lms xs b) fs) later))
unfolding best_with
won_onward lms xs b f fs (not_taken c) later w l = rw (unheard_best lms xs b fs) w
won_onward lms xs b f fs (dropped i rank) later w l = l
won_onward lms xs b f fs (halved rank) later w l = l
won_onward lms xs b f fs (finished r) later w l = l

module _ (lms : QoaLms) (x : ℤ) (xs : List ℤ) where
  won_trace : (b : Best) (fs : List ℕ) → All (λ g. g < 16) fs → Won lms (x ∷ xs) b → Won lms (x ∷ xs) (best_after b (trace_from lms (x ∷ xs) b fs))
  unfolding trace_from best_after
  won_trace b [] a w = w
  won_trace b (f ∷ fs) a w =
      let o = candidate lms (x ∷ xs) b f in
      let next = won_after lms (x ∷ xs) b (first_cost lms x f) (length (x ∷ xs)) f o a.0 (fair lms x xs b f) w in
      won_onward lms (x ∷ xs) b f fs o _ next (won_trace (best_with b f o) fs a.1 next)

  -- The first of the order finishes, since it meets no best.
  won_first : (f : ℕ) (fs : List ℕ) → All (λ g. g < 16) (f ∷ fs) → Won lms (x ∷ xs) (best_after no_best (trace_from lms (x ∷ xs) no_best (f ∷ fs)))
  unfolding trace_from best_after best_with beats
  won_first f fs a =
      rw (none_finishes (first_cost lms x f) (whole f (start_of lms f) (x ∷ xs)) (length (x ∷ xs)) (candidate lms (x ∷ xs) no_best f) (fair lms x xs no_best f))
      (won_trace (leads f (whole f (start_of lms f) (x ∷ xs))) fs a.1 (a.0, refl))

  won_all : (fs : List ℕ) → length fs ≡ 16 → All (λ g. g < 16) fs → Won lms (x ∷ xs) (best_after no_best (trace_from lms (x ∷ xs) no_best fs))
  won_all [] e a = absurd (omega arith)
  won_all (f ∷ fs) e a = won_first f fs a

  won_searched : Won lms (x ∷ xs) (searched lms (x ∷ xs))
  unfolding searched trace_of
  won_searched = won_all (ordered (first_cost lms x) 16) (ordered_length (first_cost lms x) 16) (ordered_below (first_cost lms x) 16)

-- ---- what the search of a slice finds

pub record Found (lms : QoaLms) (xs : List ℤ) : Type 0 where
  pub small : (chosen lms xs).sf < 16
  pub run_is : (chosen lms xs).run ≡ whole (chosen lms xs).sf (start_of lms (chosen lms xs).sf) xs
  pub best_is : searched lms xs ≡ leads (chosen lms xs).sf (chosen lms xs).run

pub found : (lms : QoaLms) (xs : List ℤ) → 0 < length xs → Found lms xs
unfolding chosen leader_of
found lms [] h = absurd (omega arith)
found lms (x ∷ xs) h = by (searched lms (x ∷ xs)) refl (won_searched lms x xs)
  where
    by : (b : Best) → searched lms (x ∷ xs) ≡ b → Won lms (x ∷ xs) b → Found lms (x ∷ xs)
    by no_best e w = absurd w
    by (leads f r) e w = record { small = rw e w.0; run_is = rw e w.1; best_is = rw e refl }

-- ---- at most sixteen trials to a sample

onward_most : (n most : ℕ) (o : Outcome) (ended later : List Entry) → trials_in n ended ≡ 0 → trials_in n later ≤ most → trials_in n (onward o ended later) ≤ most
onward_most n most (not_taken c) ended later e l = omega arith
onward_most n most (dropped i rank) ended later e l = l
onward_most n most (halved rank) ended later e l = l
onward_most n most (finished r) ended later e l = l

trace_most : (lms : QoaLms) (x : ℤ) (xs : List ℤ) (b : Best) (fs : List ℕ) → trials_in (length (x ∷ xs)) (trace_from lms (x ∷ xs) b fs) ≤ length fs * (length (x ∷ xs) - 1)
unfolding trace_from trials_in
trace_most lms x xs b [] = omega arith
trace_most lms x xs b (f ∷ fs) =
    let o = candidate lms (x ∷ xs) b f in
    let n = length (x ∷ xs) in
    let ended = map (unheard lms (x ∷ xs) b) fs in
    let later = trace_from lms (x ∷ xs) (best_with b f o) fs in
    omega (
      arith,
      suc-mul (length fs) (n - 1),
      later_most b (first_cost lms x f) (whole f (start_of lms f) (x ∷ xs)) n o (fair lms x xs b f),
      onward_most n (length fs * (n - 1)) o ended later (unheard_trials lms (x ∷ xs) n b fs) (trace_most lms x xs (best_with b f o) fs),
    )

pub trials_most : (lms : QoaLms) (xs : List ℤ) → 0 < length xs → trials_of lms xs ≤ 16 * length xs
unfolding trials_of trace_of
trials_most lms [] h = absurd (omega arith)
trials_most lms (x ∷ xs) h =
    let most = trace_most lms x xs no_best (ordered (first_cost lms x) 16) in
    omega (arith, rw (ordered_length (first_cost lms x) 16) at most)
