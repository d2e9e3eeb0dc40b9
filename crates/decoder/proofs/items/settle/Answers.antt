-- `decoder::items::settle` meets its contract. Assumes nothing.
use Rattle.decoder.proofs.ItemLaws.{view_settled}
use Rattle.decoder.proofs.items.settle.Goals as goal

pub returns : goal.returns
returns c = view_settled c.args.d
