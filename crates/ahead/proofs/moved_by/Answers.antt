-- `ahead::moved_by` meets its contract. Each element is in its type's range, so what the machine reads back from its bits is the element.
-- Assumes nothing.
use Rattle.std.proofs.Common.{◌≡◌, ℕ, ◌^◌, ◌<◌, [], ◌∷◌, List, ℤ, ◌∙◌, to_z-of_z, w32, SFits}
use lib.Signed.{mag}
use Rattle.wrap.proofs.Elements.{element}
use Rattle.wrap.proofs.Integers.{fits_of, reread}
use Rattle.lms.specs.Predictor.{at}
use Rattle.ahead.specs.Parts.{gained, moved_by}
use Rattle.ahead.proofs.moved_by.Goals as goal

-- what `gain` returned, as the machine holds it
next : {w h r : ℤ} (gains : List ℤ) → SFits w32 w → SFits w32 h → mag r < 2 ^ 31 → r ≡ gained (reread w32 w) (reread w32 h) gains → reread w32 r ≡ gained w h gains
next {r = r} gains fw fh ok e = to_z-of_z (fits_of w32 r ok) ∙ e ∙ rw (to_z-of_z fw, to_z-of_z fh)

pub returns : goal.returns
unfolding moved_by
returns c =
    let lms = c.args.lms in
    let gains = c.args.gains.now in
    let h : (i : ℕ) → SFits w32 (at lms.history i) = λ i. search element in
    let w : (i : ℕ) → SFits w32 (at lms.weights i) = λ i. search element in
    let w0 = next gains (w 0) (h 0) c.gain.type_inv c.gain.ensures in
    let w1 = next gains (w 1) (h 1) c.gain-2.type_inv c.gain-2.ensures in
    let w2 = next gains (w 2) (h 2) c.gain-3.type_inv c.gain-3.ensures in
    let w3 = next gains (w 3) (h 3) c.gain-4.type_inv c.gain-4.ensures in
    let sample = to_z-of_z c.ranges.sample in
    λ j. record {
      history = to_z-of_z (h 1) j ∷ to_z-of_z (h 2) j ∷ to_z-of_z (h 3) j ∷ sample j ∷ [];
      weights = w0 j ∷ w1 j ∷ w2 j ∷ w3 j ∷ [];
    }
