-- `encoder::rules::are_good_histories` meets its contract. Assumes nothing.
use mathlib.Core.Path.{sym, ◌∙◌}
use borrow.Author.Tests.{tests}
use native.Mathlib.Omega.{arith}
use lib.ListN.{take}
use Rattle.std.proofs.Common.{rules}
use Rattle.std.proofs.lemmas.Iterator.{YieldsList-from_slice}
use Rattle.std.proofs.lemmas.Iterator.Search.{all_from_yields_List}
use Rattle.format.specs.Predictor.{no_lms}
use Rattle.lms.specs.Predictor.{history_rule}
use Rattle.word.proofs.Belows.{below_list}
use Rattle.encoder.proofs.rules.are_good_histories.Goals as goal

pub returns : goal.returns
unfolding history_rule
returns c =
    let args = c.args in
    all_from_yields_List history_rule _ _ _ c.all.ensures.ran (YieldsList-from_slice (take args.channels args.states.now) cc) (λ x b q k. search (rules, tests))
    ∙ sym (below_list history_rule args.states.now no_lms args.channels (omega arith))
