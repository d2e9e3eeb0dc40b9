-- The numbers of the refusals, and what the answers tell by them. Assumes nothing.
use Rattle.std.specs.Prelude.{ℕ, Result, Ok, Err}
use mathlib.Core.Option.{Option, none, some}
use Rattle.refusal.specs.Rules.{Answer, good, refused}
use Rattle.refusal.specs.declared.Refusal.{Refusal}
use Rattle.refusal.specs.declared.Refusal.TheVariants.{NotQoaFile, NoSamples, InvalidFrameHeader, IncompatibleFrame, Truncated, TooManyChannels, OutputTooSmall, BadState, InputTooLong, InvalidChannels, InvalidSampleRate, InvalidSamples, WeightRange}

abbrev pub number_of : Refusal → ℕ
number_of NotQoaFile = 1
number_of NoSamples = 2
number_of InvalidFrameHeader = 3
number_of IncompatibleFrame = 4
number_of Truncated = 5
number_of TooManyChannels = 6
number_of OutputTooSmall = 7
number_of BadState = 8
number_of InputTooLong = 9
number_of InvalidChannels = 11
number_of InvalidSampleRate = 12
number_of InvalidSamples = 13
number_of WeightRange = 14

-- the value of an answer, or the number of the refusal
abbrev pub told : {A : Type 0} → Result A Refusal → Answer A
told (Ok x) = good x
told (Err r) = refused (number_of r)

-- the number of the refusal, if an answer is one
abbrev pub told_refusal : {A : Type 0} → Result A Refusal → Option ℕ
told_refusal (Ok x) = none
told_refusal (Err r) = some (number_of r)
