-- What the parts of the search answer, in the terms of the code.
-- Assumes nothing.
use Rattle.std.specs.Prelude.{ℕ, zero, suc, ◌+◌, ◌*◌, ◌-◌, ◌^◌, Bool, true, false, cond, List, ℤ, leb, ltb, eqb, get_or}
use Rattle.std.specs.Int.{w16}
use mir.Val.{SFits}
use Rattle.word.specs.Table.{table}
use Rattle.lms.specs.Predictor.{at}
use Rattle.lms.specs.declared.QoaLms.{QoaLms}
use Rattle.scale.specs.Tables.{row_of}
use Rattle.trial.specs.Trial.{heard, tried}
use Rattle.search.specs.Search.{chosen, first_cost, trials_of}
use Rattle.search.specs.declared.Counted.{Counted}
use Rattle.search.specs.declared.Firsts.{Firsts}
use Rattle.search.specs.declared.Run.{Run}

-- every sample is one of 16 bits
pub record SamplesFit (xs : List ℤ) : Type 0 where
  pub fit : (i : ℕ) → SFits w16 (at xs i)

-- a candidate's key: by first cost, ties by the lower number
abbrev pub key_of : (ℕ → ℕ) → ℕ → ℕ
key_of cost f = cost f * 16 + f

-- the first sample's code and the key at each of the sixteen scale factors
unfoldable pub firsts_of : QoaLms → ℤ → Firsts
firsts_of lms x = record { codes = table 16 (λ f. (tried lms x f).code); keys = table 16 (key_of (first_cost lms x)) }

-- the least of the first n keys that is from or more, or the largest number of 64 bits
unfoldable pub next_key : List ℕ → ℕ → ℕ → ℕ
next_key keys from zero = 2 ^ 64 - 1
next_key keys from (suc n) = cond (leb from (get_or keys n 0)) (cond (ltb (get_or keys n 0) (next_key keys from n)) (get_or keys n 0) (next_key keys from n)) (next_key keys from n)

-- a candidate after its first sample, of that trial's code and cost: the predictor is the one that hears the code
unfoldable pub begun_of : QoaLms → ℕ → ℕ → ℕ → Run
begun_of lms sf code cost = record { rank = cost; word = sf * 8 + code; lms = (heard lms (at (row_of sf) code)).lms }

-- the two drops, against a limit that is a number
unfoldable pub drops : ℕ → ℕ → ℕ → Bool
drops limit i rank = cond (ltb limit rank) true (cond (eqb i 10) (ltb limit (2 * rank)) false)

-- the choice, with the number of trials
unfoldable pub counted_of : QoaLms → List ℤ → Counted
counted_of lms xs = record { leader = chosen lms xs; trials = trials_of lms xs }
