-- `reader::places::decode_at` meets its contract. Assumes nothing.
use Rattle.reader.specs.Read.{placed}
use Rattle.reader.proofs.places.decode_at.Goals as goal

pub returns : goal.returns
unfolding placed
returns c =
    let done = c.decode_into.ensures in
    record { call = c.handed_back.ensures _ _ _ (record { told = done.told; left = done.left }); stored = done.stored }
