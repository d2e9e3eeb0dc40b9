-- `search::begin` meets its contract: what is heard of the code leaves the predictor that the trial left.
-- Assumes nothing.
use mathlib.Core.Path.{◌≡◌, ap, ◌∙◌}
use mathlib.Core.List.{List}
use Prim.Native.Nat.{◌≤◌}
use lib.Dec.{lit<}
use lib.IntN.{ℤ, nat_abs, pos}
use lib.ListN.{get_or}
use mir.Facts.{to_z-of_z}
use mir.Syntax.{w32}
use Rattle.wrap.proofs.Integers.{fits_abs, reread}
use Rattle.lms.specs.Predictor.{at}
use Rattle.scale.specs.Tables.{row_of}
use Rattle.scale.proofs.Bounds.{row_small}
use Rattle.search.specs.Parts.{begun_of}
use Rattle.search.proofs.begin.Goals as goal
use Rattle.search.proofs.begin.Goals.{Start}

value-small : (c : Start) → nat_abs (at (row_of c.args.row.sf) c.args.code) ≤ 14336
value-small c = row_small c.args.row.sf c.args.code c.args.row.numbered c.requires.1

value-is : (c : Start) → reread w32 (get_or c.args.row.values c.args.code (pos 0)) ≡ at (row_of c.args.row.sf) c.args.code
value-is c = ap (λ (row : List ℤ). reread w32 (at row c.args.code)) c.args.row.own ∙ to_z-of_z {w = w32} (fits_abs _ (value-small c) (lit< tt))

pub hear-heard-requires : goal.hear-heard-requires
hear-heard-requires c =
    let s = (goal.at.hear-heard-requires c).Start in
    (c.requires.0, rw (value-is s) (value-small s))

pub returns : goal.returns
unfolding begun_of
returns c =
    rw (c.push_code.ensures, c.hear-heard.ensures, value-is (goal.at.returns c).Start)
