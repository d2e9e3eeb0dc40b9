-- The code of a part of what a file tells. Assumes nothing.
use Prim.Native.Nat.{ℕ}
use mathlib.Core.Path.{◌≡◌}
use Rattle.refusal.specs.Rules.{Answer, good, refused, ◌then◌}
use Rattle.file.specs.Whole.{Audio}
use Rattle.whole.specs.Told.{summary_in, summary_of}
use Rattle.refusal.specs.declared.Summary.{Summary}
use Rattle.codes.specs.Codes.{coded}

-- a part of what a file's summary tells is that part of its audio
pub part_of : (f : Summary → ℕ) (a : Answer Audio) (told : Answer Summary) → told ≡ summary_in a → coded (told then λ s. good (f s)) ≡ coded (a then λ x. good (f (summary_of x)))
part_of f (refused n) told e = rw e
part_of f (good x) told e = rw e
