-- `block::kept_predictors::four_in` meets its contract. Assumes nothing.
use Rattle.std.proofs.Common.{◌≡◌, pos, rules}
use Rattle.std.specs.Int.{w32}
use mir.Val.{to_z}
use Prim.Native.Nat.{◌+◌}
use Rattle.word.specs.Bytes.{be32}
use Rattle.word.specs.Table.{table}
use Rattle.word.proofs.Tables.{table_of}
use Rattle.block.specs.Predictors.{four_in}
use Rattle.block.proofs.kept_predictors.four_in.Goals as goal

pub returns : goal.returns
unfolding four_in table
returns c =
    let a = c.from_fn.ensures.items.each in
    let ka = a.3 in
    let xa : a.1 ≡ to_z w32 (be32 c.args.block.now (c.args.at + 0)) = search rules in
    let b = a.4 in
    let kb = b.3 in
    let xb : b.1 ≡ to_z w32 (be32 c.args.block.now (c.args.at + 4)) = search rules in
    let d = b.4 in
    let kd = d.3 in
    let xd : d.1 ≡ to_z w32 (be32 c.args.block.now (c.args.at + 8)) = search rules in
    let e = d.4 in
    let ke = e.3 in
    let xe : e.1 ≡ to_z w32 (be32 c.args.block.now (c.args.at + 12)) = search rules in
    cc (table_of 4 c.from_fn.result (pos 0) c.from_fn.ensures.items.long, a.2.1 (pos 0), b.2.1 (pos 0), d.2.1 (pos 0), e.2.1 (pos 0))
