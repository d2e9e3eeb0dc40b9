-- `scale::code` meets its contract: the clamped quotient plus 8 is the place.
-- Assumes nothing.
use mir.Val.{SFits}
use Rattle.std.proofs.Common.{◌≡◌, ℤ, pos, negsuc, ◌+ℤ◌, ap, ◌∙◌, lt_trans, arith, lit<, to_z-of_z, w32}
use Rattle.std.specs.Int.{int_max, int_min}
use Rattle.std.proofs.lemmas.Int.{clamps, ints}
use Rattle.wrap.proofs.Integers.{fits_of, reread, returned}
use Rattle.scale.specs.Division.{code_for, codes, place_of}
use Rattle.scale.proofs.Bounds.{place_lt}
use Rattle.scale.proofs.code.Goals as goal
use Rattle.scale.proofs.code.Goals.{After-clamp-place}

clamped : (z : ℤ) → int_max (negsuc 7) (int_min z (pos 8)) +ℤ pos 8 ≡ pos (place_of z)
unfolding place_of
clamped (pos n) = omega (arith, ints, clamps)
clamped (negsuc n) = omega (arith, ints, clamps)

-- the sum, where it is taken
sum : (c : After-clamp-place) → reread w32 c.clamp-place.result +ℤ pos 8 ≡ pos (place_of c.args.quotient)
sum c =
    let r = returned w32 c.clamp-place.result c.clamp-place.type_inv c.clamp-place.ensures.value in
    ap (λ (z : ℤ). z +ℤ pos 8) r ∙ ap (λ (z : ℤ). int_max (negsuc 7) (int_min z (pos 8)) +ℤ pos 8) (to_z-of_z c.ranges.quotient) ∙ clamped c.args.quotient

fits : (c : After-clamp-place) → SFits w32 (reread w32 c.clamp-place.result +ℤ pos 8)
fits c = rw (sum c) (fits_of w32 (pos (place_of c.args.quotient)) (lt_trans (place_lt c.args.quotient) (lit< tt)))

held : (c : After-clamp-place) → reread w32 (reread w32 c.clamp-place.result +ℤ pos 8) ≡ pos (place_of c.args.quotient)
held c = to_z-of_z (fits c) ∙ sum c

pub returns : goal.returns
unfolding code_for codes
returns c = rw (held (goal.at.returns c).After-clamp-place)
