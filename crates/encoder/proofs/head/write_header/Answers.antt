-- `encoder::head::write_header` meets its contract. The first rule of `head_rules` that fires, or the header. Assumes nothing.
use borrow.Author.Tests.{not-false, not-true}
use mathlib.Core.Path.{◌≡◌, sym, ◌∙◌}
use mathlib.Core.Bool.{true}
use native.Mathlib.Omega.{arith}
use Rattle.refusal.proofs.Rules.{fires, none_fires}
use Rattle.word.proofs.Tests.{tests}
use Rattle.encoder.specs.Encoder.{good_encoder, encoder_view}
use Rattle.encoder.specs.Head.{head_rules}
use Rattle.encoder.proofs.Done.{bad_first, good_first, head_done, head_refused}
use Rattle.encoder.proofs.head.write_header.Goals as goal
use Rattle.encoder.proofs.head.write_header.Goals.{Else-not-is_good_encoder}

passes : (c : Else-not-is_good_encoder) → good_encoder (encoder_view c.args.e) ≡ true
passes c = sym c.is_good_encoder.ensures ∙ not-false _ c.if-not-is_good_encoder.false-raw

pub returns-then-not-is_good_encoder : goal.returns-then-not-is_good_encoder
unfolding head_rules
returns-then-not-is_good_encoder c = head_refused _ _ 8 (bad_first _ _ (sym c.is_good_encoder.ensures ∙ not-true _ c.if-not-is_good_encoder.true-raw))

pub returns-then-out-lt-QOA_HEADER_SIZE : goal.returns-then-out-lt-QOA_HEADER_SIZE
unfolding head_rules
returns-then-out-lt-QOA_HEADER_SIZE c = head_refused _ _ 7 (good_first _ _ (passes (goal.at.returns-then-out-lt-QOA_HEADER_SIZE c).Else-not-is_good_encoder) ∙ fires 0 _ 7 (omega (arith, tests)))

pub returns : goal.returns
unfolding head_rules encoder_view
returns c =
    head_done _ _ _ (good_first _ _ (passes (goal.at.returns c).Else-not-is_good_encoder) ∙ none_fires _ (omega (arith, tests))) c.put_head.ensures
