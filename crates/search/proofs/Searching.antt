-- What the search's two loops hold, and how each step of the code keeps it.
-- Assumes nothing.
use Prim.Native.Nat.{ℕ, ◌+◌, ◌*◌, ◌-◌, ◌^◌, ◌≤◌, ◌<◌}
use mathlib.Core.Path.{◌≡◌, refl, ap, sym, ◌∙◌, subst}
use mathlib.Core.Bool.{Bool, true, false}
use mathlib.Core.List.{List, [], ◌∷◌}
use native.Mathlib.Omega.{arith}
use borrow.Author.Tests.{le-ltb, lt-ltb}
use lib.IntN.{ℤ}
use lib.Dec.{ltb}
use lib.ListN.{length, drop, get_or}
use Rattle.word.specs.Table.{table}
use Rattle.word.proofs.Tables.{get_or_table}
use Rattle.lms.specs.Predictor.{at}
use Rattle.lms.specs.declared.QoaLms.{QoaLms}
use Rattle.trial.specs.Trial.{tried}
use Rattle.trial.proofs.Bounds.{tried_cost_lt}
use Rattle.search.specs.Candidate.{Best, no_best, leads, not_taken, finished, start_of, step_of, exceeds, beats, verdict, ruled, run_from, candidate}
use Rattle.search.specs.Search.{first_cost, ordered, trace_from, trace_of, best_after, searched, leader_of, chosen, trials_in, trials_of}
use Rattle.search.specs.Parts.{counted_of, drops, firsts_of, key_of, SamplesFit}
use Rattle.search.specs.declared.Firsts.{Firsts}
use Rattle.search.specs.declared.Leader.{Leader}
use Rattle.search.specs.declared.Run.{Run}
use Rattle.search.proofs.Bounds.{Sized, sized_start, sized_step, rank_step}
use Rattle.search.proofs.Keys.{Valued}
use Rattle.search.proofs.Steps.{limit_exceeds, limit_beats, Lost, kept, lost, run_step, run_end, taken_up, passed_over, left_ends, left_lost, left_won, left_not_lower}
use Rattle.lms.specs.Parts.{WeightsWithin}

-- At the candidates' loop: the leader shows the best so far, and what is left of the search gives the whole search's best and trials.
pub record Held (lms : QoaLms) (xs : List ℤ) (met : Best) (leader : Leader) (trials : ℕ) (rest : List ℕ) : Type 0 where
  pub shown : leader ≡ leader_of lms met
  pub same : best_after met (trace_from lms xs met rest) ≡ searched lms xs
  pub total : trials + trials_in (length xs) (trace_from lms xs met rest) ≡ trials_of lms xs

-- At the samples' loop: the rest of the candidate's run gives the candidate's whole outcome.
pub record Trying (lms : QoaLms) (xs : List ℤ) (met : Best) (leader : Leader) (f i : ℕ) (r : Run) : Type 0 where
  pub shown : leader ≡ leader_of lms met
  pub outcome : candidate lms xs met f ≡ run_from f met i r (drop i xs)
  pub sized : Sized (2 ^ 29) i r
  pub rank : r.rank ≤ i * 2 ^ 33

-- ---- the candidates' loop begins, and ends

pub held_start : (lms : QoaLms) (xs : List ℤ) {leader : Leader} → leader ≡ leader_of lms no_best → Held lms xs no_best leader 16 (ordered (first_cost lms (at xs 0)) 16)
unfolding searched trials_of trace_of
held_start lms xs e = record { shown = e; same = refl; total = refl }

counted : (lms : QoaLms) (xs : List ℤ) {leader : Leader} {trials : ℕ} → leader ≡ chosen lms xs → trials ≡ trials_of lms xs → record { leader = leader; trials = trials } ≡ counted_of lms xs
unfolding counted_of
counted lms xs p q = λ j. record { leader = p j; trials = q j }

module _ {lms : QoaLms} {xs : List ℤ} {met : Best} {leader : Leader} {trials : ℕ} where
  pub held_end : Held lms xs met leader trials [] → record { leader = leader; trials = trials } ≡ counted_of lms xs
  unfolding chosen trace_from best_after trials_in
  held_end h = counted lms xs (h.shown ∙ ap (leader_of lms) h.same) (omega (arith, h.total))

  pub held_break : {rest : List ℕ} {f c : ℕ} → Held lms xs met leader trials (f ∷ rest) → candidate lms xs met f ≡ not_taken c → record { leader = leader; trials = trials } ≡ counted_of lms xs
  unfolding chosen
  held_break {rest} {f} h o =
      let l = left_ends lms xs met f rest _ o in
      counted lms xs (h.shown ∙ ap (leader_of lms) (sym l.best ∙ h.same)) (omega (arith, h.total, l.trials))

-- ---- the first trials that the code has laid out

pub record Laid (lms : QoaLms) (xs : List ℤ) (codes keys : List ℕ) : Type 0 where
  pub codes_are : codes ≡ table 16 (λ f. (tried lms (at xs 0) f).code)
  pub keys_are : keys ≡ table 16 (key_of (first_cost lms (at xs 0)))

pub laid_of : {lms : QoaLms} {xs : List ℤ} {first : Firsts} → first ≡ firsts_of lms (at xs 0) → Laid lms xs first.codes first.keys
unfolding firsts_of
laid_of e = record { codes_are = ap (λ (r : Firsts). r.codes) e; keys_are = ap (λ (r : Firsts). r.keys) e }

module _ {lms : QoaLms} {xs : List ℤ} {codes keys : List ℕ} (p : Laid lms xs codes keys) where
  pub laid_code : (f : ℕ) → f < 16 → get_or codes f 0 ≡ (tried lms (at xs 0) f).code
  laid_code f h = rw p.codes_are (get_or_table 16 (λ g. (tried lms (at xs 0) g).code) f 0 h)

  pub laid_keys : SamplesFit xs → Valued (first_cost lms (at xs 0)) keys
  unfolding first_cost
  laid_keys fit =
      record {
        are = λ k h. rw p.keys_are (get_or_table 16 (key_of (first_cost lms (at xs 0))) k 0 h);
        small = λ k h. omega (arith, tried_cost_lt lms (at xs 0) k (fit.fit 0));
      }

-- ---- the samples' loop begins

module _ {lms : QoaLms} {xs : List ℤ} {met : Best} {leader : Leader} {trials : ℕ} {rest : List ℕ} {f : ℕ} (h : Held lms xs met leader trials (f ∷ rest)) (some : 0 < length xs) (fit : SamplesFit xs) where
  first_small : first_cost lms (at xs 0) f < 2 ^ 33
  unfolding first_cost
  first_small = tried_cost_lt lms (at xs 0) f (fit.fit 0)

  first_exceeds : (t : Bool) → ltb leader.run.rank (first_cost lms (at xs 0) f) ≡ t → exceeds (first_cost lms (at xs 0) f) met ≡ t
  first_exceeds t e =
      limit_exceeds lms met _ (omega (arith, first_small))
      ∙ subst (λ (l : Leader). ltb l.run.rank (first_cost lms (at xs 0) f) ≡ t) h.shown e

  -- A candidate whose first cost is above the limit is not taken up.
  pub not_tried : leader.run.rank < first_cost lms (at xs 0) f → candidate lms xs met f ≡ not_taken (first_cost lms (at xs 0) f)
  not_tried above = passed_over lms xs met f some (first_exceeds true (lt-ltb _ _ above))

  -- Any other is.
  pub trying_start : {r : Run} → f < 16 → WeightsWithin (2 ^ 29) lms → r ≡ step_of f (at xs 0) (start_of lms f) → first_cost lms (at xs 0) f ≤ leader.run.rank → Trying lms xs met leader f 1 r
  unfolding start_of
  trying_start small w e within =
      subst (Trying lms xs met leader f 1) (sym e)
      (record {
        shown = h.shown;
        outcome = taken_up lms xs met f some (first_exceeds false (le-ltb _ _ within));
        sized = sized_step f (at xs 0) small (sized_start f small w);
        rank = rank_step f (at xs 0) (start_of lms f) 0 (fit.fit 0) (omega arith);
      })

-- ---- the samples' loop goes on

module _ {lms : QoaLms} {xs : List ℤ} {met : Best} {leader : Leader} {f i : ℕ} {r : Run} (small : f < 16) (fit : SamplesFit xs) (t : Trying lms xs met leader f i r) where
  module _ (more : i < length xs) (few : length xs ≤ 20) {next : Run} (stepped : next ≡ step_of f (at xs i) r) where
    next_rank : next.rank ≤ (i + 1) * 2 ^ 33
    next_rank = rw stepped (rank_step f (at xs i) r i (fit.fit i) t.rank)

    pub next_small : next.rank < 2 ^ 63
    next_small = omega (arith, next_rank)

    step_outcome : candidate lms xs met f ≡ ruled (verdict met i next.rank) i next.rank (run_from f met (i + 1) next (drop (i + 1) xs))
    step_outcome = rw stepped (t.outcome ∙ run_step f met i r xs more)

    module _ {b : Bool} (said : b ≡ drops leader.run.rank i next.rank) where
      told : drops (leader_of lms met).run.rank i next.rank ≡ b
      told = subst (λ (l : Leader). drops l.run.rank i next.rank ≡ b) t.shown (sym said)

      -- The candidate is kept: its run is one sample further.
      pub trying_kept : b ≡ false → Trying lms xs met leader f (i + 1) next
      trying_kept e =
          record {
            shown = t.shown;
            outcome = step_outcome ∙ kept lms met i next.rank next_small _ (told ∙ e);
            sized = subst (Sized (2 ^ 29) (i + 1)) (sym stepped) (sized_step f (at xs i) small t.sized);
            rank = next_rank;
          }

      -- The candidate is dropped.
      pub trying_dropped : b ≡ true → Lost i next.rank (candidate lms xs met f)
      trying_dropped e = subst (Lost i next.rank) (sym step_outcome) (lost lms met i next.rank next_small _ (told ∙ e))

  -- All samples are done.
  pub trying_done : length xs ≤ i → candidate lms xs met f ≡ finished r
  trying_done h = t.outcome ∙ run_end f met i r xs h

-- ---- the candidate's end

module _ {lms : QoaLms} {xs : List ℤ} {met : Best} {leader : Leader} {trials : ℕ} {rest : List ℕ} {f : ℕ} (h : Held lms xs met leader trials (f ∷ rest)) where
  pub held_lost : {i rank t : ℕ} → Lost i rank (candidate lms xs met f) → t ≡ trials + i → Held lms xs met leader t rest
  held_lost lost e =
      let l = left_lost lms xs met f rest lost in
      record { shown = h.shown; same = sym l.best ∙ h.same; total = omega (arith, h.total, l.trials) }

  module _ {r : Run} (o : candidate lms xs met f ≡ finished r) (small : r.rank < 2 ^ 63) {t : ℕ} (e : t ≡ trials + (length xs - 1)) where
    run_beats : (b : Bool) → ltb r.rank leader.run.rank ≡ b → beats r.rank met ≡ b
    run_beats b d = limit_beats lms met _ (omega arith) ∙ subst (λ (l : Leader). ltb r.rank l.run.rank ≡ b) h.shown d

    pub held_won : r.rank < leader.run.rank → Held lms xs (leads f r) (record { sf = f; run = r }) t rest
    unfolding leader_of
    held_won below =
        let l = left_won lms xs met f rest r o (run_beats true (lt-ltb _ _ below)) in
        record { shown = refl; same = sym l.best ∙ h.same; total = omega (arith, h.total, l.trials) }

    pub held_not_lower : leader.run.rank ≤ r.rank → Held lms xs met leader t rest
    held_not_lower above =
        let l = left_not_lower lms xs met f rest r o (run_beats false (le-ltb _ _ above)) in
        record { shown = h.shown; same = sym l.best ∙ h.same; total = omega (arith, h.total, l.trials) }
