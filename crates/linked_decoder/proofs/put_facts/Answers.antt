-- `linked_decoder::put_facts` meets its contract. Assumes nothing.
use Rattle.linked_decoder.proofs.Linking.{three_put}
use Rattle.linked_decoder.proofs.put_facts.Goals as goal

pub returns : goal.returns
returns c =
    let args = c.args in
    three_put args.facts.now args.known.total args.known.channels args.known.rate c.requires
