-- `lms::update` meets its contract. Each element is in its type's range, so what the machine reads back from its bits is the element.
-- Assumes nothing.
use Rattle.std.proofs.Common.{◌≡◌, ℕ, ◌^◌, ◌<◌, [], ◌∷◌, ℤ, ◌∙◌, lit<, lit≤, to_z-of_z, w32, SFits}
use lib.Signed.{mag, shr_z}
use Rattle.wrap.proofs.Integers.{abs_shift, fits_of, reread, shift_back, widen_back}
use Rattle.lms.specs.Predictor.{at, next_weight, stepped, updated}
use Rattle.wrap.proofs.Elements.{element}
use Rattle.lms.proofs.update.Goals as goal

-- what `step` returned, as the machine holds it
next : {w h d r : ℤ} → SFits w32 w → SFits w32 h → SFits w32 d → mag r < 2 ^ 31
    → r ≡ stepped (reread w32 w) (reread w32 h) (reread w32 (shr_z (reread w32 d) (2 ^ 4))) → reread w32 r ≡ stepped w h (shr_z d (2 ^ 4))
next {r = r} fw fh fd ok e = to_z-of_z (fits_of w32 r ok) ∙ e ∙ rw (to_z-of_z fw, to_z-of_z fh, shift_back (2 ^ 4) fd)

pub step-requires-3 : goal.step-requires-3
step-requires-3 c =
    let f : SFits w32 (at c.args.lms.weights 2) = search element in
    (rw (to_z-of_z f) (c.requires.0.bound 2), rw (shift_back (2 ^ 4) c.ranges.residual) (abs_shift c.args.residual 16 896 (lit< tt) c.requires.1))

pub step-requires-4 : goal.step-requires-4
step-requires-4 c =
    let f : SFits w32 (at c.args.lms.weights 3) = search element in
    (rw (to_z-of_z f) (c.requires.0.bound 3), rw (shift_back (2 ^ 4) c.ranges.residual) (abs_shift c.args.residual 16 896 (lit< tt) c.requires.1))

pub returns : goal.returns
unfolding updated next_weight
returns c =
    let lms = c.args.lms in
    let h : (i : ℕ) → SFits w32 (at lms.history i) = λ i. search element in
    let w : (i : ℕ) → SFits w32 (at lms.weights i) = λ i. search element in
    let d = c.ranges.residual in
    let w0 = next (w 0) (h 0) d c.step.type_inv c.step.ensures in
    let w1 = next (w 1) (h 1) d c.step-2.type_inv c.step-2.ensures in
    let w2 = next (w 2) (h 2) d c.step-3.type_inv c.step-3.ensures in
    let w3 = next (w 3) (h 3) d c.step-4.type_inv c.step-4.ensures in
    let sample = widen_back w32 c.ranges.sample (lit≤ tt) in
    λ j. record {
      history = to_z-of_z (h 1) j ∷ to_z-of_z (h 2) j ∷ to_z-of_z (h 3) j ∷ sample j ∷ [];
      weights = w0 j ∷ w1 j ∷ w2 j ∷ w3 j ∷ [];
    }
