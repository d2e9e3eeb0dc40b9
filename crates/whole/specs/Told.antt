-- What the calls' answers tell. Assumes nothing.
use Rattle.std.specs.Prelude.{ℕ, List, ℤ, length}
use Rattle.refusal.specs.Rules.{Answer, good, ◌then◌}
use Rattle.file.specs.Whole.{Audio}
use Rattle.refusal.specs.declared.Summary.{Summary}

-- a file's audio, its samples counted
abbrev pub summary_of : Audio → Summary
summary_of a = record { channels = a.channels; rate = a.rate; count = length a.samples }

abbrev pub summary_in : Answer Audio → Answer Summary
summary_in answer = answer then λ a. good (summary_of a)

abbrev pub heard_in : Answer Audio → Answer (List ℤ)
heard_in answer = answer then λ a. good a.samples

abbrev pub count_in : Answer (List ℤ) → Answer ℕ
count_in answer = answer then λ xs. good (length xs)
