-- `decoder::items::group_item` meets its contract. Assumes nothing.
use borrow.Author.Rules.{rules}
use mathlib.Core.Path.{refl}
use mathlib.Core.List.{[], ◌∷◌}
use Prim.Native.Nat.{◌<◌}
use native.Mathlib.Nat.{mul-pos}
use native.Mathlib.Omega.{arith}
use lib.Dec.{lit<}
use lib.IntN.{pos}
use lib.ListN.{get_or, length}
use mir.Syntax.{w16}
use Rattle.wrap.proofs.Integers.{returned}
use Rattle.state.specs.View.{view}
use Rattle.into.proofs.Counts.{groups_one}
use Rattle.decoder.proofs.ItemLaws.{group_cut, group_turn}
use Rattle.into.proofs.Sound.{Sound, sound}
use Rattle.decoder.proofs.items.group_item.Goals as goal
use Rattle.decoder.proofs.items.group_item.Goals.{Start}

facts : (c : Start) → Sound c.args.d (length c.args.bytes.now)
facts c = sound c.args.d (length c.args.bytes.now) c.requires.0

some_channels : (c : Start) → 0 < c.args.d.frame.channels
some_channels c = (facts c).some_channels c.requires.2

pub overflow_add-d : goal.overflow_add-d
overflow_add-d c = omega (arith, (facts (goal.at.overflow_add-d c).Start).place, (facts (goal.at.overflow_add-d c).Start).few_channels, c.well_formed)

pub returns-then-bytes-d : goal.returns-then-bytes-d
returns-then-bytes-d c =
    let args = c.args in
    group_cut args.bytes.now args.d args.d c.refused.result c.if-bytes-d.true c.refused.ensures.0 c.refused.ensures.1

pub decode_more-state-requires : goal.decode_more-state-requires
unfolding view
decode_more-state-requires c =
    record { good = c.requires.0; some = (lit< tt, mul-pos c.requires.2 (some_channels (goal.at.decode_more-state-requires c).Start)); whole = rw (groups_one c.args.d.frame.channels (some_channels (goal.at.decode_more-state-requires c).Start)) (omega (arith, c.if-bytes-d.false)); room = omega (arith, c.requires.1) }

pub returns : goal.returns
returns c =
    let args = c.args in
    let more = c.decode_more-state in
    group_turn args.bytes.now args.d more.result _ (pos 0 ∷ []) more.new.out (returned w16 (get_or more.new.out 0 (pos 0)) (search rules) refl) c.requires.1 (some_channels (goal.at.returns c).Start)
    c.if-bytes-d.false (lit< tt) more.ensures.samples more.ensures.state
