-- `ahead::expect` meets its contract: the newest product is added to the older sum. Assumes nothing.
use Rattle.std.proofs.Common.{◌^◌, ℤ, ◌+ℤ◌, ◌*ℤ◌, ap, ap₂, ◌∙◌, to_z-of_z, w32, SFits}
use lib.IntN.{+ℤ_assoc}
use lib.Signed.{shr_z}
use Rattle.wrap.specs.Wrap.{wrap32}
use Rattle.wrap.proofs.Elements.{element}
use Rattle.wrap.proofs.Integers.{fits_of, shift_back}
use Rattle.lms.specs.Predictor.{at, dot, predicted}
use Rattle.lms.specs.Parts.{older_dot}
use Rattle.ahead.proofs.expect.Goals as goal

pub returns : goal.returns
unfolding predicted dot older_dot
returns c =
    let w = c.args.a.lms.weights in
    let h = c.args.a.lms.history in
    let fw : SFits w32 (at w 3) = search element in
    let fh : SFits w32 (at h 3) = search element in
    let newest = ap₂ (λ (x y : ℤ). older_dot w h +ℤ x *ℤ y) (to_z-of_z fw) (to_z-of_z fh) in
    let whole = newest ∙ +ℤ_assoc (at w 0 *ℤ at h 0 +ℤ at w 1 *ℤ at h 1) (at w 2 *ℤ at h 2) (at w 3 *ℤ at h 3) in
    shift_back (2 ^ 13) (fits_of w32 c.add_newest.result c.add_newest.type_inv)
    ∙ ap (λ (z : ℤ). shr_z z (2 ^ 13)) (c.add_newest.ensures (older_dot w h) c.args.a.ahead ∙ ap wrap32 whole)
