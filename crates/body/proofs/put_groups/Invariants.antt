-- `body::put_groups` meets its contract. The invariant: the first `g` groups are searched, in the predictors and in `out`.
-- Assumes nothing.
use mathlib.Core.Path.{◌≡◌}
use mathlib.Core.List.{List}
use lib.IntN.{ℤ}
use Rattle.word.specs.Bytes.{bytes_of}
use Rattle.lms.specs.declared.QoaLms.{QoaLms}
use Prim.Native.Nat.{ℕ, ◌-◌, ◌≤◌, ◌<◌}
use lib.ListN.{length}
use Rattle.format.specs.Format.{max_channels}
use Rattle.format.specs.Predictor.{lms_of}
use Rattle.search.specs.Search.{strided}
use Rattle.body.specs.Channel.{lms_before, slice_word}
use Rattle.refusal.specs.Rules.{good}
use Rattle.refusal.specs.Lent.{laid_over}
use Rattle.body.specs.Laid.{laid}
use Rattle.body.proofs.put_groups.Given as goal

-- the bytes of group g
abbrev pub group : List QoaLms → List ℤ → ℕ → ℕ → ℕ → List ℕ
group states samples n channels g = laid channels (λ j. bytes_of 8 (slice_word (lms_of states j) (strided n samples j channels) g))

abbrev pub invariant-loop-g : goal.invariant-loop-g
invariant-loop-g l =
    (l.g ≤ l.slices)
    × (length l.next ≡ max_channels)
    × ((k : ℕ) → k < l.channels → lms_of l.next k ≡ lms_before (lms_of l.initial.next k) (strided l.n l.samples k l.channels) l.g)
    × (l.out ≡ laid_over l.initial.out l.at (good (laid l.g (group l.initial.next l.samples l.n l.channels))))

abbrev pub decreases-loop-g : goal.decreases-loop-g
decreases-loop-g l = l.slices - l.g
