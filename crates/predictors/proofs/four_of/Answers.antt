-- `predictors::four_of` meets its contract. Assumes nothing.
use Rattle.std.proofs.Common.{◌≡◌, pos, rules}
use Rattle.std.specs.Int.{w16}
use mir.Val.{to_z}
use Rattle.word.specs.Word.{field}
use Rattle.word.specs.Table.{table}
use Rattle.word.proofs.Tables.{table_of}
use Rattle.format.specs.Parts.{four_of}
use Rattle.predictors.proofs.four_of.Goals as goal

pub returns : goal.returns
unfolding four_of table
returns c =
    let a = c.from_fn.ensures.items.each in
    let ka = a.3 in
    let xa : a.1 ≡ to_z w16 (field 16 48 c.args.word) = search rules in
    let b = a.4 in
    let kb = b.3 in
    let xb : b.1 ≡ to_z w16 (field 16 32 c.args.word) = search rules in
    let d = b.4 in
    let kd = d.3 in
    let xd : d.1 ≡ to_z w16 (field 16 16 c.args.word) = search rules in
    let e = d.4 in
    let ke = e.3 in
    let xe : e.1 ≡ to_z w16 (field 16 0 c.args.word) = search rules in
    cc (table_of 4 c.from_fn.result (pos 0) c.from_fn.ensures.items.long, a.2.1 (pos 0), b.2.1 (pos 0), d.2.1 (pos 0), e.2.1 (pos 0))
