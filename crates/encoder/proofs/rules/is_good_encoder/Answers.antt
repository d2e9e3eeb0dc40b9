-- `encoder::rules::is_good_encoder` meets its contract: the first rule that fails decides. Assumes nothing.
use mathlib.Core.Path.{sym, ◌∙◌}
use native.Mathlib.Omega.{arith}
use Rattle.word.proofs.Belows.{fails}
use Rattle.encoder.specs.Encoder.{encoder_view}
use Rattle.encoder.proofs.GoodEncoders.{good_by, good_facts}
use Rattle.encoder.proofs.rules.is_good_encoder.Goals as goal

pub returns-then-channels-eq0 : goal.returns-then-channels-eq0
unfolding encoder_view
returns-then-channels-eq0 c = sym (fails _ (λ t. let g = good_facts _ t in absurd (omega arith)))

pub returns : goal.returns
returns c = c.are_good_histories.ensures ∙ sym (good_by _ (omega arith) (omega arith) (omega arith) (omega arith) (omega arith))
