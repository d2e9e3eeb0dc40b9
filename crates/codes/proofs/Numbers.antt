-- A code is a number of 64 bits that reads back as it was made. Assumes nothing.
use Prim.Native.Nat.{ℕ, zero, suc, ◌<◌, ◌^◌}
use mathlib.Core.Path.{◌≡◌}
use native.Mathlib.Omega.{arith}
use lib.Dec.{T, lit<, lt→ltb}
use lib.Ieee.{binary64, in_float}
use lib.IntN.{pos, neg_ℤ, ◌-ℤ◌, +ℤ_idl}
use mir.Syntax.{w64}
use mir.Val.{SFits, to_z}
use Rattle.wrap.proofs.Integers.{abs_neg, fits_abs, read_pos}
use Rattle.refusal.specs.Refusals.{number_of}
use Rattle.refusal.specs.declared.Refusal.{Refusal}
use Rattle.refusal.specs.declared.Refusal.TheVariants.{NotQoaFile, NoSamples, InvalidFrameHeader, IncompatibleFrame, Truncated, TooManyChannels, OutputTooSmall, BadState, InputTooLong, InvalidChannels, InvalidSampleRate, InvalidSamples, WeightRange}

-- the number of a refusal fits a byte
pub number_small : (r : Refusal) → number_of r < 256
number_small NotQoaFile = lit< tt
number_small NoSamples = lit< tt
number_small InvalidFrameHeader = lit< tt
number_small IncompatibleFrame = lit< tt
number_small Truncated = lit< tt
number_small TooManyChannels = lit< tt
number_small OutputTooSmall = lit< tt
number_small BadState = lit< tt
number_small InputTooLong = lit< tt
number_small InvalidChannels = lit< tt
number_small InvalidSampleRate = lit< tt
number_small InvalidSamples = lit< tt
number_small WeightRange = lit< tt

-- minus a number, as the code makes it
pub minus_is : (n : ℕ) → n < 2 ^ 63 → pos 0 -ℤ to_z w64 n ≡ neg_ℤ (pos n)
minus_is n l = rw (read_pos w64 n l) (+ℤ_idl (neg_ℤ (pos n)))

pub minus_fits : (n : ℕ) → n < 2 ^ 63 → SFits w64 (pos 0 -ℤ to_z w64 n)
minus_fits n l = rw (minus_is n l) (fits_abs {k = n} (neg_ℤ (pos n)) (rw (abs_neg (pos n)) (omega arith)) l)

-- a double holds it
pub minus_double : (n : ℕ) → n < 256 → T (in_float binary64 (neg_ℤ (pos n)))
unfolding in_float
minus_double zero l = tt
minus_double (suc n) l = lt→ltb n (2 ^ 53) (omega arith)
