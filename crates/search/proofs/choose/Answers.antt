-- `search::choose` meets its contract. Each loop holds an equation: what is left of the definition, from here, gives what the whole gives.
-- `Held` is that of the candidates, with the best met so far; `Trying` that of the samples of one candidate.
-- Assumes nothing.
use native.Mathlib.Omega.{arith}
use Prim.Native.Nat.{ℕ, ◌+◌, ◌-◌, ◌%◌, ◌^◌, ◌<◌}
use mathlib.Core.Path.{◌≡◌, refl, ap, ap₂, sym, ◌∙◌, subst}
use mathlib.Core.List.{◌∷◌}
use lib.ListN.{length}
use lib.IntN.{ℤ}
use Rattle.lms.specs.Predictor.{at}
use Rattle.lms.proofs.Bounds.{within_more}
use Rattle.trial.proofs.Bounds.{tried_code_lt}
use mir.Facts.{to_z-of_z}
use mir.Syntax.{w16}
use Rattle.wrap.proofs.Integers.{reread}
use Rattle.search.specs.Parts.{firsts_of}
use Rattle.search.specs.declared.Run.{Run}
use Rattle.search.specs.Candidate.{step_of, no_best, leads, finished, candidate}
use Rattle.search.specs.Search.{first_cost, ordered}
use Rattle.search.proofs.Bounds.{sized_room}
use Rattle.search.proofs.Steps.{Lost, begun}
use Rattle.search.proofs.Chosen.{trials_most}
use Rattle.search.proofs.Keys.{coming_all, Due, due_next, due_over, next_reached, Turn, turn, Valued}
use Rattle.search.proofs.Searching.{Held, held_start, Laid, laid_of, laid_code, laid_keys, next_small, held_end, held_break, not_tried, trying_start, trying_kept, trying_dropped, trying_done, held_lost, held_won, held_not_lower}
use Rattle.search.proofs.choose.Goals as goal
use Rattle.search.proofs.choose.Goals.{else-i-n-via-then-i-n+else-run-limit, else-i-n-via-else-i-n, After-advance-run, After-next_key-after, After-next_key-key, At-samples, In-candidates, Left-samples, else-samples-test, then-samples-test+then-dropped}

-- ---- what is known after the calls, at a candidate, and where the samples' loop was left

laid : (c : After-next_key-key) → Laid c.args.lms c.args.samples.now c.first_trials-first.result.codes c.first_trials-first.result.keys
laid c = laid_of (c.first_trials-first.ensures ∙ ap (firsts_of c.args.lms) (to_z-of_z (c.requires.samples_nonzero.2.fit 0)))

valued : (c : After-next_key-key) → Valued (first_cost c.args.lms (at c.args.samples.now 0)) c.first_trials-first.result.keys
valued c = laid_keys (laid c) c.requires.samples_nonzero.2

turning : (c : In-candidates) → Turn (first_cost c.args.lms (at c.args.samples.now 0)) c.candidates.key c.candidates.invariant.1
turning c = turn c.candidates.invariant.3 c.candidates-test.true

sf_small : (c : In-candidates) → c.candidates.key % 16 < 16
sf_small c = omega arith

held_here : (c : In-candidates) → Held c.args.lms c.args.samples.now c.candidates.invariant.0 c.candidates.best c.candidates.trials (c.candidates.key % 16 ∷ (turning c).tail)
held_here c = subst (Held _ _ _ _ _) (turning c).split c.candidates.invariant.2

-- a step of the run, of the candidate's number and the sample that was read
stepped : (c : Left-samples) {run : Run} → run ≡ step_of c.quick_row-fast.result.sf (reread w16 (at c.args.samples.now c.samples.i)) c.samples.run → run ≡ step_of (c.candidates.key % 16) (at c.args.samples.now c.samples.i) c.samples.run
stepped c e = e ∙ ap₂ (λ (sf : ℕ) (x : ℤ). step_of sf x c.samples.run) c.quick_row-fast.ensures (to_z-of_z (c.requires.samples_nonzero.2.fit c.samples.i))

stepping : (c : After-advance-run) → c.advance-run.result ≡ step_of (c.candidates.key % 16) (at c.args.samples.now c.samples.i) c.samples.run
stepping c = c.advance-run.ensures ∙ ap₂ (λ (sf : ℕ) (x : ℤ). step_of sf x c.samples.run) c.quick_row-fast.ensures (to_z-of_z (c.requires.samples_nonzero.2.fit c.samples.i))

-- Where the samples' loop is left: at its end the run is finished, and before it the candidate is lost.
at_end : (c : Left-samples) → c.candidates.key % 16 < 16 → c.samples.i ≡ length c.args.samples.now → (candidate c.args.lms c.args.samples.now c.samples.invariant.1 (c.candidates.key % 16) ≡ finished c.samples-test.run) × (c.samples-test.run.rank < 2 ^ 63) × (c.samples-test.trials ≡ c.candidates.trials + (length c.args.samples.now - 1))
at_end c small e =
    let few = c.requires.samples_nonzero.1 in
    elim c.samples-test.branch [
      | else-samples-test w ↦ (
        trying_done small c.requires.samples_nonzero.2 c.samples.invariant.5 w.samples-test.false ∙ ap finished (sym w.run-is),
        rw w.run-is (omega (arith, few, c.samples.invariant.5.rank)),
        omega (arith, e, w.trials-is, c.samples.invariant.6, c.requires.samples_nonzero.0),
      )
      | then-samples-test+then-dropped w ↦ absurd (omega (arith, e, w.samples-test.true))
    ]

before_end : (c : Left-samples) → c.candidates.key % 16 < 16 → (c.samples.i ≡ length c.args.samples.now → ⊥) → Lost c.samples.i c.samples-test.run.rank (candidate c.args.lms c.args.samples.now c.samples.invariant.1 (c.candidates.key % 16)) × (c.samples-test.trials ≡ c.candidates.trials + c.samples.i)
before_end c small ne =
    let few = c.requires.samples_nonzero.1 in
    elim c.samples-test.branch [
      | else-samples-test w ↦ absurd (ne (omega (arith, w.samples-test.false, c.samples.invariant.0)))
      | then-samples-test+then-dropped w ↦ (
        rw w.run-is (trying_dropped small c.requires.samples_nonzero.2 c.samples.invariant.5 w.samples-test.true few (stepped c w.advance-run.ensures) w.dropped.ensures w.if-dropped.true),
        omega (arith, w.trials-is, c.samples.invariant.6),
      )
    ]

further : (c : Left-samples) → 2 ^ 64 - 1 - c.next_key-after.result < 2 ^ 64 - 1 - c.candidates.key
further c =
    omega (arith, c.candidates-test.true, c.next_key-after.ensures, next_reached c.first_trials-first.result.keys (c.candidates.key + 1) 16 (omega (arith, c.candidates-test.true)))

due_there : (c : Left-samples) → Valued (first_cost c.args.lms (at c.args.samples.now 0)) c.first_trials-first.result.keys → Due (first_cost c.args.lms (at c.args.samples.now 0)) c.next_key-after.result c.samples.invariant.2
due_there c v = due_next v c.samples.invariant.4 c.next_key-after.ensures

pub first_trials-first-requires : goal.first_trials-first-requires
first_trials-first-requires c = within_more (omega arith) c.requires.weights_within

pub candidates-init : goal.candidates-init
candidates-init c = (no_best, ordered (first_cost c.args.lms (at c.args.samples.now 0)) 16, held_start c.args.lms c.args.samples.now c.unled-best.ensures, due_next (valued (goal.at.candidates-init c).After-next_key-key) (coming_all (first_cost c.args.lms (at c.args.samples.now 0))) c.next_key-key.ensures)

pub overflow_add-key : goal.overflow_add-key
overflow_add-key c = omega (arith, c.candidates-test.true)

pub bounds-codes-sf : goal.bounds-codes-sf
bounds-codes-sf c = sf_small (goal.at.bounds-codes-sf c).In-candidates

pub begin-run-requires : goal.begin-run-requires
begin-run-requires c =
    let u = (goal.at.begin-run-requires c).In-candidates in
    let o = (goal.at.begin-run-requires c).After-next_key-key in
    (within_more (omega arith) c.requires.weights_within, rw (laid_code (laid o) (c.candidates.key % 16) (sf_small u)) (tried_code_lt _ _ _))

pub samples-init : goal.samples-init
samples-init c =
    let u = (goal.at.samples-init c).In-candidates in
    let o = (goal.at.samples-init c).After-next_key-key in
    let fit = c.requires.samples_nonzero.2 in
    let first = rw (c.row-row.ensures, laid_code (laid o) (c.candidates.key % 16) (sf_small u), (turning u).cost_is, begun c.args.lms (at c.args.samples.now 0) (c.candidates.key % 16)) at c.begin-run.ensures in (
      c.requires.samples_nonzero.0,
      c.candidates.invariant.0,
      (turning u).tail,
      held_here u,
      (turning u).coming,
      trying_start (held_here u) c.requires.samples_nonzero.0 fit (sf_small u) c.requires.weights_within first (rw (turning u).cost_is at c.if-limit-cost.false),
      refl,
    )

pub advance-run-requires : goal.advance-run-requires
advance-run-requires c =
    let few = c.requires.samples_nonzero.1 in
    let room = sized_room c.samples.i (omega (arith, few)) c.samples.invariant.5.sized in
    (omega (arith, few, c.samples.invariant.5.rank), room.0, room.1)

pub overflow_add-trials : goal.overflow_add-trials
overflow_add-trials c =
    let u = (goal.at.overflow_add-trials c).In-candidates in
    omega (arith, c.samples.invariant.0, c.samples.invariant.6, c.requires.samples_nonzero.1, (held_here u).total, trials_most c.args.lms c.args.samples.now c.requires.samples_nonzero.0)

pub dropped-requires : goal.dropped-requires
dropped-requires c =
    let u = (goal.at.dropped-requires c).In-candidates in
    next_small (sf_small u) c.requires.samples_nonzero.2 c.samples.invariant.5 c.samples-test.true c.requires.samples_nonzero.1 (stepping (goal.at.dropped-requires c).After-advance-run)

pub overflow_add-i : goal.overflow_add-i
overflow_add-i c = omega (arith, c.samples-test.true, c.requires.samples_nonzero.1)

pub samples-smaller : goal.samples-smaller
samples-smaller c = omega arith

pub samples-preserved : goal.samples-preserved
samples-preserved c =
    let u = (goal.at.samples-preserved c).In-candidates in (
      omega arith,
      c.samples.invariant.1,
      c.samples.invariant.2,
      c.samples.invariant.3,
      c.samples.invariant.4,
      trying_kept (sf_small u) c.requires.samples_nonzero.2 c.samples.invariant.5 c.samples-test.true c.requires.samples_nonzero.1 (stepping (goal.at.samples-preserved c).After-advance-run) c.dropped.ensures c.if-dropped.false,
      omega arith,
    )

pub candidates-smaller-then-run-limit : goal.candidates-smaller-then-run-limit
candidates-smaller-then-run-limit c = further (goal.at.candidates-smaller-then-run-limit c).Left-samples

pub candidates-preserved-then-run-limit : goal.candidates-preserved-then-run-limit
candidates-preserved-then-run-limit c =
    let l = (goal.at.candidates-preserved-then-run-limit c).Left-samples in
    let o = (goal.at.candidates-preserved-then-run-limit c).After-next_key-key in
    let t = c.samples.invariant in
    let e = at_end l (omega arith) c.if-i-n.true in
    (leads _ _, t.2, held_won t.3 e.0 e.1 e.2 c.if-run-limit.true, due_there l (valued o))

pub candidates-smaller : goal.candidates-smaller
candidates-smaller c = further (goal.at.candidates-smaller c).Left-samples

pub candidates-preserved : goal.candidates-preserved
candidates-preserved c =
    let l = (goal.at.candidates-preserved c).Left-samples in
    let o = (goal.at.candidates-preserved c).After-next_key-key in
    let t = c.samples.invariant in
    elim c.else-i-n.branch [
      | else-i-n-via-then-i-n+else-run-limit w ↦ let e = at_end l (omega arith) w.if-i-n.true in (t.1, t.2, held_not_lower t.3 e.0 e.1 e.2 w.if-run-limit.false, due_there l (valued o))
      | else-i-n-via-else-i-n w ↦ let e = before_end l (omega arith) w.if-i-n.false in (t.1, t.2, held_lost t.3 e.0 e.1, due_there l (valued o))
    ]

pub returns-after-candidates : goal.returns-after-candidates
returns-after-candidates c =
    let v = c.candidates.invariant in
    held_end (subst (Held _ _ _ _ _) (due_over (valued (goal.at.returns-after-candidates c).After-next_key-key) v.3 c.candidates-test.false) v.2)

pub returns-then-limit-cost : goal.returns-then-limit-cost
returns-then-limit-cost c =
    let u = (goal.at.returns-then-limit-cost c).In-candidates in
    held_break (held_here u) (not_tried (held_here u) c.requires.samples_nonzero.0 c.requires.samples_nonzero.2 (rw (turning u).cost_is at c.if-limit-cost.true))
