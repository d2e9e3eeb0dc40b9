-- `body::put_states` meets its contract. The invariant: the first `j` predictors are stored. Assumes nothing.
use mathlib.Core.Path.{◌≡◌}
use mathlib.Core.List.{List}
use Rattle.lms.specs.declared.QoaLms.{QoaLms}
use Rattle.format.specs.Predictor.{lms_of}
use Prim.Native.Nat.{ℕ}
use Rattle.refusal.specs.Rules.{good}
use Rattle.refusal.specs.Lent.{laid_over}
use Rattle.body.specs.Laid.{laid, lms_bytes}
use Rattle.body.proofs.put_states.Given as goal

-- a channel's bytes
abbrev pub stored : List QoaLms → ℕ → List ℕ
stored states k = lms_bytes (lms_of states k)

abbrev pub invariant-loop-j : goal.invariant-loop-j
invariant-loop-j l = l.out ≡ laid_over l.initial.out l.at (good (laid l.j (stored l.fn.states)))
