-- `encoder::head::put_head` meets its contract. Assumes nothing.
use mathlib.Core.Path.{◌∙◌}
use native.Mathlib.Omega.{arith}
use Rattle.encoder.proofs.Heads.{head_put}
use Rattle.encoder.proofs.head.put_head.Goals as goal

pub returns : goal.returns
returns c =
    let put = c.before.before in
    c.write_be.ensures ∙ rw c.file_word.ensures (head_put c.args.total c.args.out.now (omega arith) c.requires)
