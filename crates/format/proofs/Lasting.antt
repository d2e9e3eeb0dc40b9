-- The facts record's length. Assumes nothing.
use mathlib.Core.Path.{◌≡◌, refl}
use mathlib.Core.Bool.{true, false}
use Prim.Native.Nat.{ℕ, ◌<◌, ◌^◌}
use native.Mathlib.Omega.{arith}
use lib.IntN.{pos}
use lib.Dec.{le→leb}
use lib.Ieee.{binary64, of_int, to_unsigned, in_float, div}
use lib.Ieee.Back.{unsigned_back}
use borrow.Author.Tests.{ne_eqb}
use Rattle.format.specs.Facts.{no_length, seconds, facts_of}

-- the checked number: 88200 samples at 44100 Hz last exactly 2.0 seconds
pub two_seconds : seconds 88200 44100 ≡ of_int binary64 (pos 2)
unfolding div of_int
two_seconds = refl

-- a number below 2 ^ 32 goes to a double and back unchanged
pub cast_exact : (n : ℕ) → n < 2 ^ 32 → to_unsigned 32 (of_int binary64 (pos n)) ≡ n
unfolding in_float
cast_exact n h = (unsigned_back binary64 32 n (le→leb n (2 ^ 53) (omega arith)) h).1

-- a fixed total has a length, and streaming has none
pub fixed_timed : (total c rate : ℕ) → 0 < total → ((facts_of total c rate).timed ≡ true) × ((facts_of total c rate).length ≡ seconds total rate)
unfolding facts_of
fixed_timed total c rate h = let some : total ≡ 0 → ⊥ = λ e. omega arith in simp (ne_eqb total 0 some) (refl, refl)

pub streaming_untimed : (c rate : ℕ) → ((facts_of 0 c rate).timed ≡ false) × ((facts_of 0 c rate).length ≡ no_length)
unfolding facts_of
streaming_untimed c rate = (refl, refl)
