-- `block::kept_predictors::write_predictors` meets its contract. The invariant: the first `j` predictors are stored. Assumes nothing.
use Rattle.block.specs.Predictors.{predictor_bytes}
use Rattle.format.specs.Predictor.{lms_of}
use Rattle.lms.specs.declared.QoaLms.{QoaLms}
use Rattle.word.specs.Table.{table}
use mathlib.Core.List.{List}
use mathlib.Core.Path.{◌≡◌}
use Prim.Native.Nat.{ℕ}
use Rattle.body.specs.Laid.{laid}
use Rattle.refusal.specs.Rules.{good}
use Rattle.refusal.specs.Lent.{laid_over}
use Rattle.block.proofs.kept_predictors.write_predictors.Given as goal

-- a channel's bytes
abbrev pub stored : List QoaLms → ℕ → ℕ → List ℕ
stored states channels k = predictor_bytes (lms_of (table channels (lms_of states)) k)

abbrev pub invariant-loop-j : goal.invariant-loop-j
invariant-loop-j l = l.block ≡ laid_over l.initial.block l.at (good (laid l.j (stored l.lms-items l.channels)))
