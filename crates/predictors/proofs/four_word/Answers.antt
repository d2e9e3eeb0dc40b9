-- `predictors::four_word` meets its contract: the shifted numbers share no bit. Assumes nothing.
use Rattle.std.proofs.Common.{◌<◌, ℕ, pos, lit<}
use Rattle.predictors.proofs.Predictors.{four_joined}
use Rattle.predictors.proofs.four_word.Goals as goal

pub returns : goal.returns
returns c =
    let low = λ (i : ℕ) (h : i < 4). (c.map.ensures.items.at i (pos 0) 0 h).2.met in
    four_joined c.args.xs _ _ _ _ (low 0 (lit< tt)) (low 1 (lit< tt)) (low 2 (lit< tt)) (low 3 (lit< tt))
