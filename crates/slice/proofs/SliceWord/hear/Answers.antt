-- `slice::SliceWord::hear` meets its contract, by those of what it calls. Assumes nothing.
use mathlib.Core.Path.{◌≡◌}
use mir.Syntax.{w32}
use Rattle.wrap.proofs.Integers.{reread}
use Rattle.lms.specs.Predictor.{at}
use Rattle.slice.specs.Slice.{residual_at}
use Rattle.slice.proofs.Codes.{value_small, value_there}
use Rattle.slice.proofs.SliceWord.hear.Goals as goal
use Rattle.slice.proofs.SliceWord.hear.Goals.{After-code-code}

-- the table value of the code
value-is : (c : After-code-code) → reread w32 (at c.args.self.now.row c.code-code.result) ≡ residual_at c.args.self.now.word c.args.i
value-is c = value_there c.args.self.now.word c.args.i c.code-code.ensures c.args.self.now.own_row

pub hear-requires : goal.hear-requires
hear-requires c =
    (c.requires.0, value_small c.args.self.now.word c.args.i c.code-code.ensures c.args.self.now.own_row)
