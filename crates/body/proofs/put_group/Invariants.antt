-- `body::put_group` meets its contract. The invariant: the first `j` channels are searched, in the predictors and in `out`.
-- Assumes nothing.
use mathlib.Core.Path.{◌≡◌}
use mathlib.Core.List.{List}
use lib.IntN.{ℤ}
use Rattle.lms.specs.declared.QoaLms.{QoaLms}
use Rattle.format.specs.Predictor.{lms_of}
use Rattle.search.specs.Search.{encoded_slice, strided}
use Rattle.search.specs.declared.Encoded.{Encoded}
use Prim.Native.Nat.{ℕ, ◌+◌, ◌-◌, ◌≤◌}
use Rattle.word.specs.Bytes.{bytes_of}
use Rattle.word.specs.Parts.{written}
use Rattle.refusal.specs.Rules.{good}
use Rattle.refusal.specs.Lent.{laid_over}
use Rattle.body.specs.Laid.{laid}
use Rattle.body.proofs.put_group.Given as goal

-- the slice of channel k
abbrev pub found : List QoaLms → List ℤ → ℕ → ℕ → ℕ → ℕ → Encoded
found states samples start count channels k = encoded_slice (lms_of states k) (strided count samples (start + k) channels)

abbrev pub invariant-loop-j : goal.invariant-loop-j
invariant-loop-j l =
    (l.j ≤ l.channels)
    × (l.next ≡ written (λ k. (found l.initial.next l.samples l.start l.count l.channels k).lms) l.initial.next 0 1 l.j)
    × (l.out ≡ laid_over l.initial.out l.at (good (laid l.j (λ k. bytes_of 8 (found l.initial.next l.samples l.start l.count l.channels k).word))))

abbrev pub decreases-loop-j : goal.decreases-loop-j
decreases-loop-j l = l.channels - l.j
