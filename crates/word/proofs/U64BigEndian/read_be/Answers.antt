-- `read_be` of `u64` meets its contract: two halves make the number. Assumes nothing.
use mathlib.Core.Path.{◌∙◌, sym}
use native.Mathlib.Omega.{arith}
use Rattle.word.proofs.BytesLaws.{be_join}
use Rattle.word.proofs.Push.{push}
use Rattle.word.proofs.U64BigEndian.read_be.Goals as goal

pub returns : goal.returns
returns c =
    let s = c in
    let high = c.read_number-high.ensures in
    let low = c.read_number-low.ensures in
    push 32 32 high.1 (omega arith) low.1 ∙ rw (high.0, low.0) (sym (be_join 4 4 s.args.bytes.now s.args.at))
