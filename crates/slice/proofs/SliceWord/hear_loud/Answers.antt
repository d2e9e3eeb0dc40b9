-- `slice::SliceWord::hear_loud` meets its contract. The loop's invariant: `i` samples are heard and stored, whatever the slice began with, and the
-- codes after them are those of `rest`. The measure is what is left of the count. Assumes nothing.
use mathlib.Core.Path.{◌≡◌, sym, ap, ap₂, ◌∙◌}
use mathlib.Core.List.{List}
use Prim.Native.Nat.{ℕ, ◌+◌, ◌*◌, ◌<◌}
use native.Mathlib.Omega.{arith}
use lib.IntN.{ℤ, ◌+ℤ◌}
use lib.ListN.{length, length-set}
use mir.Syntax.{w16, w32}
use mir.Val.{SFits}
use mir.Facts.{to_z-of_z}
use Rattle.wrap.proofs.Integers.{reread, returned}
use Rattle.word.specs.Word.{code_of}
use Rattle.ahead.specs.Parts.{moved_by}
use Rattle.lms.specs.Predictor.{clamp16, predicted, updated}
use Rattle.lms.proofs.Bounds.{clamp16_fits, update_within, within_more}
use Rattle.ahead.proofs.GainLaws.{moved_updated}
use Rattle.slice.specs.Slice.{residual_at}
use Rattle.slice.proofs.Codes.{code_lt, gains_there, small_there, value_small, value_there}
use Rattle.slice.proofs.Growth.{residual_small}
use Rattle.slice.proofs.Steps.{heard_next}
use Rattle.slice.proofs.SliceWord.hear_loud.Goals as goal
use Rattle.slice.proofs.SliceWord.hear_loud.Goals.{After-advance-state, After-clamped_ahead-sample, After-code-code, After-drop_codes-rest-in-loop-i}

-- the turn's code
code_is : (c : After-code-code) →
    c.code-code.result ≡ code_of c.args.self.now.word c.loop-i.i
code_is c =
    let here : c.loop-i.i + 0 ≡ c.loop-i.i = omega arith in
    c.code-code.ensures ∙ c.loop-i.invariant.3 0 (omega arith) ∙ ap (code_of c.args.self.now.word) here

-- which is below 8
below : (c : After-code-code) → c.code-code.result < 8
below c = code_lt c.args.self.now.word c.loop-i.i (code_is c)

pub clamped_ahead-sample-requires : goal.clamped_ahead-sample-requires
clamped_ahead-sample-requires c =
    value_small c.args.self.now.word c.loop-i.i (code_is (goal.at.clamped_ahead-sample-requires c).After-code-code) c.args.self.now.own_row

-- the clamped sum
sample_is : (c : After-clamped_ahead-sample) → c.code-code.result ≡ code_of c.args.self.now.word c.loop-i.i →
    reread w32 c.clamped_ahead-sample.result ≡ clamp16 (predicted c.loop-i.state.lms +ℤ residual_at c.args.self.now.word c.loop-i.i)
sample_is c code =
    let value = value_there c.args.self.now.word c.loop-i.i code c.args.self.now.own_row in
    returned w32 c.clamped_ahead-sample.result c.clamped_ahead-sample.type_inv (c.clamped_ahead-sample.ensures ∙ ap (λ (v : ℤ). clamp16 (predicted c.loop-i.state.lms +ℤ v)) value)

pub overflow_cast-out : goal.overflow_cast-out
overflow_cast-out c =
    let p = goal.at.overflow_cast-out c in
    rw (sample_is p.After-clamped_ahead-sample (code_is p.After-code-code)) (clamp16_fits _)

-- the place that a turn stores to
room : (c : After-clamped_ahead-sample) →
    let args = c.args in
    args.start + c.loop-i.i * args.stride < length args.out.now
room c = c.requires.room c.loop-i.i (omega arith)

pub advance-state-requires : goal.advance-state-requires
advance-state-requires c =
    (within_more (omega arith) c.loop-i.invariant.2, small_there c.args.self.now.word c.loop-i.i (code_is (goal.at.advance-state-requires c).After-code-code) c.args.gains.now c.requires.gains)

-- the predictor after the turn
next_is : (c : After-advance-state) → c.code-code.result ≡ code_of c.args.self.now.word c.loop-i.i → SFits w16 (reread w32 c.clamped_ahead-sample.result) →
    c.advance-state.result.lms ≡ updated c.loop-i.state.lms (reread w16 (reread w32 c.clamped_ahead-sample.result)) (residual_at c.args.self.now.word c.loop-i.i)
next_is c code fits =
    let gains = gains_there c.args.self.now.word c.loop-i.i code c.args.gains.now c.requires.gains in
    c.advance-state.ensures
    ∙ ap₂ (λ (x : ℤ) (g : List ℤ). moved_by c.loop-i.state.lms x g) (sym (to_z-of_z fits)) gains
    ∙ moved_updated c.loop-i.state.lms _ (residual_at c.args.self.now.word c.loop-i.i)

-- the codes that are left, one fewer
codes_are : (c : After-drop_codes-rest-in-loop-i) →
    (j : ℕ) → c.loop-i.i + 1 + j < 20 → code_of c.drop_codes-rest-in-loop-i.result j ≡ code_of c.args.self.now.word (c.loop-i.i + 1 + j)
codes_are c j h =
    let more : c.loop-i.i + (1 + j) ≡ c.loop-i.i + 1 + j = omega arith in
    c.drop_codes-rest-in-loop-i.ensures j (omega arith) ∙ c.loop-i.invariant.3 (1 + j) (omega arith) ∙ ap (code_of c.args.self.now.word) more

pub loop-i-preserved : goal.loop-i-preserved
loop-i-preserved c =
    let args = c.args in
    let word = args.self.now.word in
    let p = goal.at.loop-i-preserved c in
    let small = residual_small word c.loop-i.i in
    let code = code_is p.After-code-code in
    let sample = sample_is p.After-clamped_ahead-sample code in
    let fits : SFits w16 (reread w32 c.clamped_ahead-sample.result) = rw sample (clamp16_fits _) in
    let stored = to_z-of_z fits ∙ sample in
    let next = next_is p.After-advance-state code fits in (
      omega arith,
      length-set c.loop-i.out _ _ ∙ c.loop-i.invariant.1,
      rw next (within_more (omega arith) (update_within _ _ small c.loop-i.invariant.2)),
      codes_are c,
      λ s o so_far. rw next (heard_next word s o args.start args.stride c.loop-i.i _ _ _ stored (c.loop-i.invariant.4 s o so_far)),
    )
