-- How an answer is one signed number for a C caller: a number from 0 on, or minus the number of a refusal. Assumes nothing.
use Rattle.std.specs.Prelude.{ℕ, ◌+◌, ◌*◌, ◌^◌, Float, ℤ, pos, neg_ℤ}
use Rattle.std.specs.Float.{binary64}
use Rattle.std.specs.Float.Ieee.{of_int}
use Rattle.refusal.specs.Rules.{Answer, good, refused}
use Rattle.encoder.specs.Calls.{Told, refuses, refuses_14, wrote}

abbrev pub coded : Answer ℕ → ℤ
coded (refused n) = neg_ℤ (pos n)
coded (good n) = pos n

-- refusal 14 of the encoder has the channel and the bytes that stand in the output above its number
abbrev pub coded_encode : Told → ℤ
coded_encode (wrote n) = pos n
coded_encode (refuses n) = neg_ℤ (pos n)
coded_encode (refuses_14 bytes channel) = neg_ℤ (pos (14 + 2 ^ 8 * channel + 2 ^ 16 * bytes))

-- seconds likewise, in doubles
abbrev pub coded_seconds : Answer Float → Float
coded_seconds (refused n) = of_int binary64 (neg_ℤ (pos n))
coded_seconds (good seconds) = seconds
