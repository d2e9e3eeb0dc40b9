-- `decoder::items::header_item` meets its contract. Assumes nothing.
use Rattle.decoder.proofs.ItemLaws.{header_turn}
use Rattle.decoder.proofs.items.header_item.Goals as goal

pub returns : goal.returns
returns c bs = header_turn bs c.args.d c.settle.result c.settle.ensures
