-- `lms::cost` meets its contract. Assumes nothing.
use Rattle.std.proofs.Common.{◌≡◌, ◌-ℤ◌, ℤ, arith, w16, w32, SFits}
use Rattle.std.proofs.lemmas.Int.{ints}
use Rattle.wrap.proofs.Integers.{reread}
use Rattle.lms.specs.Predictor.{cost_of}
use Rattle.lms.proofs.cost.Goals as goal

-- the difference, as the machine holds it
held : (x y : ℤ) → SFits w16 x → SFits w16 y → reread w32 (reread w32 (reread w16 x) -ℤ reread w32 (reread w16 y)) ≡ x -ℤ y
held x y f g = omega (arith, ints)

pub returns : goal.returns
unfolding cost_of
returns c = rw (c.magnitude-error.ensures, held c.args.sample c.args.reconstructed c.ranges.sample c.ranges.reconstructed)
