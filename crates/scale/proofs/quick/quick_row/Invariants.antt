-- `scale::quick_row` meets its contract. The invariant: the values below `i` are in place.
-- Assumes nothing.
use Rattle.std.proofs.Common.{◌≡◌, ℕ, ◌<◌, length, get_or, pos}
use Rattle.scale.specs.Parts.{quick_row}
use Rattle.scale.proofs.quick.quick_row.Given as goal

abbrev pub invariant-loop-i : goal.invariant-loop-i
invariant-loop-i l = record {
  long : length l.values ≡ 34;
  placed : (k : ℕ) → k < l.i → get_or l.values k (pos 0) ≡ get_or (quick_row l.row.sf) k (pos 0);
}
