-- `lms::clamp` meets its contract. Assumes nothing.
use Rattle.std.proofs.Common.{◌≡◌, ℤ, pos, negsuc, ◌∙◌, arith, to_z-of_z, w32}
use Rattle.std.specs.Int.{int_max, int_min}
use Rattle.wrap.proofs.Integers.{fits_of}
use Rattle.lms.specs.Predictor.{clamp16}
use Rattle.lms.proofs.Bounds.{clamp16_fits}
use Rattle.lms.proofs.clamp.Goals as goal

-- the library's clamp to 16 bits is the definition
nearest : (z : ℤ) → int_max (negsuc 32767) (int_min z (pos 32767)) ≡ clamp16 z
unfolding clamp16
nearest (pos n) = grind arith
nearest (negsuc n) = grind arith

pub returns : goal.returns
returns c =
    let x = c.args.x in
    let value : c.clamp.result ≡ clamp16 x = c.clamp.ensures.value ∙ rw (to_z-of_z c.ranges.x) (nearest x) in
    rw (to_z-of_z (fits_of w32 c.clamp.result c.clamp.type_inv), value) (to_z-of_z (clamp16_fits x))
