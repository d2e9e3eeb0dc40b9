-- `lms::are_short` meets its contract. Assumes nothing.
use Rattle.std.proofs.Common.{ltb, ◌∙◌, rules, tests, pos}
use Rattle.std.proofs.lemmas.Iterator.{YieldsList-from_slice}
use Rattle.std.proofs.lemmas.Iterator.Search.{all_from_yields_List}
use lib.Signed.{mag}
use Rattle.word.proofs.Belows.{list_all-below}
use Rattle.lms.specs.Predictor.{all_short}
use Rattle.lms.proofs.are_short.Goals as goal

pub returns : goal.returns
unfolding all_short
returns c =
    let xs = c.args.xs in
    all_from_yields_List (λ z. ltb (mag z) 32768) _ _ c.all.result c.all.ensures.ran (YieldsList-from_slice xs cc) (λ x b q k. search (rules, tests))
    ∙ list_all-below (λ z. ltb (mag z) 32768) xs (pos 0)
