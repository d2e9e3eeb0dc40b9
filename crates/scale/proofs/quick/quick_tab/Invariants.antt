-- `scale::quick_tab` meets its contract. The invariant: the rows below `sf` are in place.
-- Assumes nothing.
use Rattle.std.proofs.Common.{◌≡◌, ℕ, ◌<◌, [], length, get_or}
use Rattle.scale.specs.Parts.{quick_row}
use Rattle.scale.proofs.quick.quick_tab.Given as goal

abbrev pub invariant-loop-sf : goal.invariant-loop-sf
invariant-loop-sf l = record {
  long : length l.quick ≡ 16;
  placed : (k : ℕ) → k < l.sf → get_or l.quick k [] ≡ quick_row k;
}
