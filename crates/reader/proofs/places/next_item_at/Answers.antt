-- `reader::places::next_item_at` meets its contract. Assumes nothing.
use Rattle.reader.specs.Read.{placed}
use Rattle.reader.proofs.places.next_item_at.Goals as goal

pub returns : goal.returns
unfolding placed
returns c = c.handed_back.ensures _ _ _ c.next_item.ensures
