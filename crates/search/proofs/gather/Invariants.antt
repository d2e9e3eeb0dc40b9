-- `search::gather` meets its contract. The invariant: the first `i` are in place, and each is a number of 16 bits.
-- Assumes nothing.
use Prim.Native.Nat.{ℕ, ◌+◌, ◌*◌, ◌<◌}
use mathlib.Core.Path.{◌≡◌}
use lib.IntN.{pos}
use lib.ListN.{length, get_or}
use mir.Syntax.{w16}
use mir.Val.{SFits}
use Rattle.lms.specs.Predictor.{at}
use Rattle.search.proofs.gather.Given as goal

abbrev pub invariant-loop-i : goal.invariant-loop-i
invariant-loop-i l = record {
  long : length l.place-items ≡ l.n;
  placed : (k : ℕ) → k < l.i → get_or l.place-items k (pos 0) ≡ at l.samples (l.start + k * l.stride);
  fits : (k : ℕ) → k < l.i → SFits w16 (at l.samples (l.start + k * l.stride));
}
