-- `slice::SliceWord::hear_quiet` meets its contract. The loop's invariant: `i` samples are heard and stored, whatever the slice began with.
-- The measure is what is left of them. Assumes nothing.
use mathlib.Core.Path.{◌≡◌, sym, ap, ap₂, ◌∙◌}
use mathlib.Core.List.{List}
use Prim.Native.Nat.{ℕ, ◌+◌, ◌*◌, ◌-◌, ◌^◌, ◌<◌}
use native.Mathlib.Omega.{arith}
use borrow.Author.Tests.{ltb-true}
use lib.IntN.{ℤ, ◌+ℤ◌}
use lib.ListN.{length, length-set}
use lib.Signed.{mag}
use mir.Syntax.{w16, w32}
use mir.Facts.{to_z-of_z}
use Rattle.wrap.proofs.Integers.{fits_of, reread, returned}
use Rattle.word.specs.Word.{code_of}
use Rattle.ahead.specs.Parts.{moved_by}
use Rattle.lms.specs.Predictor.{clamp16, predicted, updated}
use Rattle.lms.specs.declared.QoaLms.{QoaLms}
use mir.Val.{SFits}
use Rattle.lms.proofs.Bounds.{clamp16_kept, update_within, within_more}
use Rattle.ahead.proofs.GainLaws.{moved_updated}
use Rattle.slice.specs.Slice.{residual_at}
use Rattle.slice.proofs.Codes.{code_lt, gains_there, small_there, value_small, value_there}
use Rattle.slice.proofs.Growth.{residual_small}
use Rattle.slice.proofs.Steps.{heard_next}
use Rattle.slice.proofs.SliceWord.hear_quiet.Goals as goal
use Rattle.slice.proofs.SliceWord.hear_quiet.Goals.{After-advance-state, After-code-code, After-sum_ahead-sum, Else-not-is_short}

-- the turn's code
code_is : (c : After-code-code) →
    c.code-code.result ≡ code_of c.args.self.now.word c.loop-i.i
code_is c =
    let from = c.args.from in
    let there : from + (c.loop-i.i - from) ≡ c.loop-i.i = omega arith in
    c.code-code.ensures ∙ c.drop_codes-rest.ensures (c.loop-i.i - from) (omega arith) ∙ ap (code_of c.args.self.now.word) there

-- which is below 8
below : (c : After-code-code) → c.code-code.result < 8
below c = code_lt c.args.self.now.word c.loop-i.i (code_is c)

pub sum_ahead-sum-requires : goal.sum_ahead-sum-requires
sum_ahead-sum-requires c =
    value_small c.args.self.now.word c.loop-i.i (code_is (goal.at.sum_ahead-sum-requires c).After-code-code) c.args.self.now.own_row

-- the sum, which the definition clamps
abbrev sum_of : QoaLms → ℕ → ℕ → ℤ
sum_of lms word i = predicted lms +ℤ residual_at word i

sum_is : (c : After-sum_ahead-sum) → c.code-code.result ≡ code_of c.args.self.now.word c.loop-i.i → reread w32 c.sum_ahead-sum.result ≡ sum_of c.loop-i.state.lms c.args.self.now.word c.loop-i.i
sum_is c code =
    let value = value_there c.args.self.now.word c.loop-i.i code c.args.self.now.own_row in
    returned w32 c.sum_ahead-sum.result c.sum_ahead-sum.type_inv (c.sum_ahead-sum.ensures ∙ ap (λ (v : ℤ). predicted c.loop-i.state.lms +ℤ v) value)

-- it has 16 bits where the loop goes on,
short : (c : Else-not-is_short) {sum : ℤ} → reread w32 c.sum_ahead-sum.result ≡ sum → mag sum < 2 ^ 15
short c s = ltb-true _ _ (sym (rw s at c.is_short.ensures) ∙ c.if-not-is_short.false)

-- so what is stored is the clamped sum
stored_is : (c : Else-not-is_short) {sum : ℤ} → reread w32 c.sum_ahead-sum.result ≡ sum → reread w16 (reread w32 c.sum_ahead-sum.result) ≡ clamp16 sum
stored_is c {sum} s = ap (reread w16) s ∙ to_z-of_z (fits_of w16 sum (short c s)) ∙ clamp16_kept _ (short c s)

-- the place that a turn stores to
room : (c : Else-not-is_short) →
    let args = c.args in
    args.start + c.loop-i.i * args.stride < length args.out.now
room c = c.requires.room c.loop-i.i (omega arith)

pub advance-state-requires : goal.advance-state-requires
advance-state-requires c =
    (within_more (omega arith) c.loop-i.invariant.3, small_there c.args.self.now.word c.loop-i.i (code_is (goal.at.advance-state-requires c).After-code-code) c.args.gains.now c.requires.gains)

-- the predictor after the turn
next_is : (c : After-advance-state) → c.code-code.result ≡ code_of c.args.self.now.word c.loop-i.i → SFits w16 (reread w32 c.sum_ahead-sum.result) →
    c.advance-state.result.lms ≡ updated c.loop-i.state.lms (reread w16 (reread w32 c.sum_ahead-sum.result)) (residual_at c.args.self.now.word c.loop-i.i)
next_is c code fits =
    let gains = gains_there c.args.self.now.word c.loop-i.i code c.args.gains.now c.requires.gains in
    c.advance-state.ensures
    ∙ ap₂ (λ (x : ℤ) (g : List ℤ). moved_by c.loop-i.state.lms x g) (sym (to_z-of_z fits)) gains
    ∙ moved_updated c.loop-i.state.lms _ (residual_at c.args.self.now.word c.loop-i.i)

pub loop-i-preserved : goal.loop-i-preserved
loop-i-preserved c =
    let args = c.args in
    let word = args.self.now.word in
    let p = goal.at.loop-i-preserved c in
    let code = code_is p.After-code-code in
    let s = sum_is p.After-sum_ahead-sum code in
    let next = next_is p.After-advance-state code (rw s (fits_of w16 _ (short p.Else-not-is_short s))) in
    let small = residual_small word c.loop-i.i in (
      omega arith,
      omega arith,
      length-set c.loop-i.out _ _ ∙ c.loop-i.invariant.2,
      rw next (within_more (omega arith) (update_within _ _ small c.loop-i.invariant.3)),
      λ s' o so_far. rw next (heard_next word s' o args.start args.stride c.loop-i.i _ _ _ (stored_is p.Else-not-is_short s) (c.loop-i.invariant.4 s' o so_far)),
    )
