-- `block::decoding::write_pending` meets its contract. The invariant: the first `i` samples are stored. Assumes nothing.
use Rattle.block.proofs.Holding.{sample_held}
use Rattle.word.specs.Bytes.{bytes_of}
use Rattle.wrap.specs.Wrap.{low16}
use lib.IntN.{ℤ}
use mathlib.Core.List.{List}
use mathlib.Core.Path.{◌≡◌}
use Prim.Native.Nat.{◌+◌, ◌*◌, ℕ}
use Rattle.format.specs.Format.{max_channels}
use Rattle.body.specs.Laid.{laid}
use Rattle.refusal.specs.Rules.{good}
use Rattle.refusal.specs.Lent.{laid_over}
use Rattle.block.proofs.decoding.write_pending.Given as goal

-- a sample's bytes
abbrev pub stored : List ℤ → ℕ → ℕ → ℕ → List ℕ
stored pending next end k = bytes_of 2 (low16 (sample_held pending next end k))

abbrev pub invariant-loop-i : goal.invariant-loop-i
invariant-loop-i l = l.block ≡ laid_over l.initial.block (32 + 32 * max_channels) (good (laid l.i (stored l.pending l.next l.end)))
