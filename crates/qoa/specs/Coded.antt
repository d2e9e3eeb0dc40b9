-- What the C interface tells of a file. Assumes nothing.
use Rattle.std.specs.Prelude.{ℕ, List, length}
use Rattle.refusal.specs.Rules.{Answer, after, good, ◌then◌}
use Rattle.format.specs.declared.facts.Facts.{Facts}
use Rattle.file.specs.Whole.{Audio}
use Rattle.state.specs.Opening.{open_rules, opened_at}
use Rattle.state.specs.Facts.{facts_for}

-- ---- of a file that decodes: how many samples over all channels, its channels, its rate

abbrev pub sample_count : Answer Audio → Answer ℕ
sample_count answer = answer then λ a. good (length a.samples)

abbrev pub channels_in : Answer Audio → Answer ℕ
channels_in answer = answer then λ a. good a.channels

abbrev pub rate_in : Answer Audio → Answer ℕ
rate_in answer = answer then λ a. good a.rate

-- ---- of a file that opens: its facts at the start

unfoldable pub opened_facts : List ℕ → Answer Facts
opened_facts bs = after (open_rules bs) (good (facts_for (opened_at bs).mode (opened_at bs).frame))
