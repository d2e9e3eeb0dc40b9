-- `slice::gains_of` meets its contract, value by value. Assumes nothing.
use mathlib.Core.Path.{◌≡◌, ap, ◌∙◌}
use mathlib.Core.List.{List}
use Prim.Native.Nat.{ℕ, zero, suc}
use native.Mathlib.Omega.{arith}
use lib.IntN.{ℤ}
use mir.Facts.{to_z-of_z}
use mir.Syntax.{w32}
use mir.Val.{SFits}
use Rattle.wrap.proofs.Elements.{element}
use Rattle.wrap.proofs.Integers.{reread}
use Rattle.ahead.specs.Parts.{gains_of}
use Rattle.lms.specs.Predictor.{at}
use Rattle.slice.proofs.gains_of.Goals as goal
use Rattle.slice.proofs.gains_of.Goals.{Start}

-- the gains of the i-th value, which the machine holds as it is
entry : (s : Start) (i : ℕ) (r : List ℤ) → r ≡ gains_of (reread w32 (at s.args.row i)) → r ≡ gains_of (at s.args.row i)
entry s i r e =
    let fits : SFits w32 (at s.args.row i) = search element in
    e ∙ ap gains_of (to_z-of_z fits)

pub returns : goal.returns
returns c zero h = entry (goal.at.returns c).Start 0 _ c.gains.ensures
returns c (suc zero) h = entry (goal.at.returns c).Start 1 _ c.gains-2.ensures
returns c (suc (suc zero)) h = entry (goal.at.returns c).Start 2 _ c.gains-3.ensures
returns c (suc (suc (suc zero))) h = entry (goal.at.returns c).Start 3 _ c.gains-4.ensures
returns c (suc (suc (suc (suc zero)))) h = entry (goal.at.returns c).Start 4 _ c.gains-5.ensures
returns c (suc (suc (suc (suc (suc zero))))) h = entry (goal.at.returns c).Start 5 _ c.gains-6.ensures
returns c (suc (suc (suc (suc (suc (suc zero)))))) h = entry (goal.at.returns c).Start 6 _ c.gains-7.ensures
returns c (suc (suc (suc (suc (suc (suc (suc zero))))))) h = entry (goal.at.returns c).Start 7 _ c.gains-8.ensures
returns c (suc (suc (suc (suc (suc (suc (suc (suc code)))))))) h = absurd (omega arith)
