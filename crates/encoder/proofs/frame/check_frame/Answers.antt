-- `encoder::frame::check_frame` meets its contract. The first rule of `frame_rules` that fires, one return for each. Assumes nothing.
use borrow.Author.Tests.{eqb-false, eqb-true, not-false, not-true}
use mathlib.Core.Path.{◌≡◌, sym, ◌∙◌}
use mathlib.Core.Bool.{true}
use native.Mathlib.Omega.{arith}
use Rattle.refusal.proofs.Rules.{fires, none_fires}
use Rattle.word.proofs.Tests.{tests}
use Rattle.encoder.specs.Encoder.{good_encoder, encoder_view}
use Rattle.encoder.specs.Frame.{encode_rules}
use Rattle.encoder.proofs.Done.{bad_first, good_first}
use Rattle.encoder.proofs.GoodEncoders.{Good, good_facts}
use Rattle.encoder.proofs.frame.check_frame.Goals as goal
use Rattle.encoder.proofs.frame.check_frame.Goals.{Else-not-is_good_encoder, then-is_empty-via-then-is_empty, then-is_empty-via-else-is_empty+then-samples-channels-ne0}

passes : (c : Else-not-is_good_encoder) → good_encoder (encoder_view c.args.e) ≡ true
passes c = sym c.is_good_encoder.ensures ∙ not-false _ c.if-not-is_good_encoder.false-raw

facts : (c : Else-not-is_good_encoder) → Good (encoder_view c.args.e)
facts c = good_facts _ (passes c)

pub returns-then-not-is_good_encoder : goal.returns-then-not-is_good_encoder
unfolding encode_rules
returns-then-not-is_good_encoder c = sym (bad_first _ _ (sym c.is_good_encoder.ensures ∙ not-true _ c.if-not-is_good_encoder.true-raw))

pub returns-then-is_empty : goal.returns-then-is_empty
unfolding encode_rules encoder_view
returns-then-is_empty c =
    let good-left = good_first _ _ (passes (goal.at.returns-then-is_empty c).Else-not-is_good_encoder) in
    elim c.then-is_empty.branch [
      | then-is_empty-via-then-is_empty w ↦ sym (good-left ∙ fires 0 _ 13 (omega (arith, tests, eqb-true _ _ (sym c.is_empty.ensures ∙ w.if-is_empty.true))))
      | then-is_empty-via-else-is_empty+then-samples-channels-ne0 w ↦ sym (good-left ∙ fires 1 _ 13 (omega (arith, tests, eqb-false _ _ (sym c.is_empty.ensures ∙ w.if-is_empty.false))))
    ]

pub nonzero_rem-samples : goal.nonzero_rem-samples
unfolding encoder_view
nonzero_rem-samples c = (facts (goal.at.nonzero_rem-samples c).Else-not-is_good_encoder).some_channels

pub returns-then-n-gt-QOA_FRAME_LEN : goal.returns-then-n-gt-QOA_FRAME_LEN
unfolding encode_rules encoder_view
returns-then-n-gt-QOA_FRAME_LEN c = sym (good_first _ _ (passes (goal.at.returns-then-n-gt-QOA_FRAME_LEN c).Else-not-is_good_encoder) ∙ fires 2 _ 13 (omega (arith, tests, eqb-false _ _ (sym c.is_empty.ensures ∙ c.if-is_empty.false))))

pub returns-then-room-frame_length : goal.returns-then-room-frame_length
unfolding encode_rules encoder_view
returns-then-room-frame_length c = sym (good_first _ _ (passes (goal.at.returns-then-room-frame_length c).Else-not-is_good_encoder) ∙ fires 3 _ 7 (omega (arith, tests, eqb-false _ _ (sym c.is_empty.ensures ∙ c.if-is_empty.false))))

pub returns : goal.returns
unfolding encode_rules encoder_view
returns c = sym (good_first _ _ (passes (goal.at.returns c).Else-not-is_good_encoder) ∙ none_fires _ (omega (arith, tests, eqb-false _ _ (sym c.is_empty.ensures ∙ c.if-is_empty.false))))
