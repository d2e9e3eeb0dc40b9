-- `oneshot::check_shot` meets its contract. The first rule of `shot_rules` that fires, one return for each. Assumes nothing.
use borrow.Author.Tests.{not-false, not-true}
use mathlib.Core.Path.{◌≡◌, sym, ◌∙◌}
use mathlib.Core.Bool.{true}
use native.Mathlib.Omega.{arith}
use Rattle.refusal.proofs.Rules.{fires, none_fires}
use Rattle.word.proofs.Tests.{tests}
use Rattle.encoder.specs.Encoder.{good_encoder, encoder_view}
use Rattle.oneshot.specs.OneShot.{shot_rules}
use Rattle.encoder.proofs.Done.{bad_first, good_first}
use Rattle.encoder.proofs.GoodEncoders.{good_facts}
use Rattle.oneshot.proofs.check_shot.Goals as goal
use Rattle.oneshot.proofs.check_shot.Goals.{Else-not-is_good_encoder}

passes : (c : Else-not-is_good_encoder) → good_encoder (encoder_view c.args.e) ≡ true
passes c = sym c.is_good_encoder.ensures ∙ not-false _ c.if-not-is_good_encoder.false-raw

pub returns-then-not-is_good_encoder : goal.returns-then-not-is_good_encoder
unfolding shot_rules
returns-then-not-is_good_encoder c = sym (bad_first _ _ (sym c.is_good_encoder.ensures ∙ not-true _ c.if-not-is_good_encoder.true-raw))

pub returns-then-samples-total : goal.returns-then-samples-total
unfolding shot_rules encoder_view
returns-then-samples-total c = sym (good_first _ _ (passes (goal.at.returns-then-samples-total c).Else-not-is_good_encoder) ∙ fires 0 _ 13 (omega (arith, tests)))

pub file_need-requires : goal.file_need-requires
unfolding encoder_view
file_need-requires c = let g = good_facts _ (passes (goal.at.file_need-requires c).Else-not-is_good_encoder) in (g.few_channels, omega arith)

pub returns-then-room-file_need : goal.returns-then-room-file_need
unfolding shot_rules encoder_view
returns-then-room-file_need c = sym (good_first _ _ (passes (goal.at.returns-then-room-file_need c).Else-not-is_good_encoder) ∙ fires 1 _ 7 (omega (arith, tests)))

pub returns : goal.returns
unfolding shot_rules encoder_view
returns c = sym (good_first _ _ (passes (goal.at.returns c).Else-not-is_good_encoder) ∙ none_fires _ (omega (arith, tests)))
