-- `block::kept_predictors::write_four` meets its contract. Assumes nothing.
use Rattle.std.proofs.Common.{◌≡◌, ◌<◌, ℕ, pos, get_or, arith, lit<}
use Rattle.wrap.specs.Wrap.{low32}
use Rattle.lms.specs.Predictor.{at}
use Rattle.block.proofs.Layouts.{four_over}
use Rattle.block.proofs.kept_predictors.write_four.Goals as goal
use Rattle.block.proofs.kept_predictors.write_four.Goals.{After-map}

-- each is the low bits of its number
low : (c : After-map) (i : ℕ) → i < 4 → get_or c.map.result i 0 ≡ low32 (at c.args.xs i)
low c i h = (c.map.ensures.items.at i (pos 0) 0 h).2.met

pub returns : goal.returns
returns c =
    let each = low (goal.at.returns c).After-map in
    rw (c.write_be-4.ensures, each 3 (lit< tt), c.write_be-3.ensures, each 2 (lit< tt), c.write_be-2.ensures, each 1 (lit< tt), c.write_be.ensures, each 0 (lit< tt))
    (four_over c.args.block.now c.args.at c.args.xs (omega arith))
