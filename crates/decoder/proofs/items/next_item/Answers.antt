-- `decoder::items::next_item` meets its contract. Assumes nothing.
use mathlib.Core.Path.{◌≡◌, sym, ◌∙◌}
use mathlib.Core.Bool.{true}
use native.Mathlib.Omega.{arith}
use borrow.Author.Tests.{not-false, not-true}
use lib.ListN.{length}
use Rattle.state.specs.View.{view}
use Rattle.state.specs.States.{good_state}
use Rattle.decoder.specs.Items.{first_header, from_group, from_next, from_pending}
use Rattle.decoder.proofs.ItemLaws.{item_bad, item_turn, turn_group, turn_header, turn_next, turn_pending}
use Rattle.into.proofs.Sound.{Sound, sound}
use Rattle.decoder.proofs.items.next_item.Goals as goal
use Rattle.decoder.proofs.items.next_item.Goals.{Else-not-is_good}

pub returns-then-not-is_good : goal.returns-then-not-is_good
returns-then-not-is_good c =
    let args = c.args in
    item_bad args.bytes.now args.d c.refused.result (sym c.is_good.ensures ∙ c.if-not-is_good.true) c.refused.ensures.0 c.refused.ensures.1

-- ---- a good state

is-good : (c : Else-not-is_good) → good_state (view c.args.d) (length c.args.bytes.now) ≡ true
is-good c = sym c.is_good.ensures ∙ c.if-not-is_good.false

facts : (c : Else-not-is_good) → Sound c.args.d (length c.args.bytes.now)
facts c = sound _ _ (is-good c)

pub pending_item-requires : goal.pending_item-requires
pending_item-requires c = let s = facts (goal.at.pending_item-requires c).Else-not-is_good in (c.if-d.true, omega (arith, s.one_group, s.few_channels))

pub returns-then-d : goal.returns-then-d
returns-then-d c =
    let args = c.args in
    item_turn args.bytes.now args.d c.pending_item.result from_pending (is-good (goal.at.returns-then-d c).Else-not-is_good) (turn_pending args.d c.if-d.true) (c.pending_item.ensures args.bytes.now)

pub returns-then-not-d : goal.returns-then-not-d
returns-then-not-d c =
    let args = c.args in
    item_turn args.bytes.now args.d c.header_item.result first_header (is-good (goal.at.returns-then-not-d c).Else-not-is_good) (turn_header args.d c.if-d.false (not-true _ c.if-not-d.true)) (c.header_item.ensures args.bytes.now)

pub returns-then-d-gt0 : goal.returns-then-d-gt0
returns-then-d-gt0 c =
    let args = c.args in
    item_turn args.bytes.now args.d c.group_item.result from_group (is-good (goal.at.returns-then-d-gt0 c).Else-not-is_good) (turn_group args.d c.if-d.false (not-false _ c.if-not-d.false) c.if-d-gt0.true) c.group_item.ensures

pub frame_item-requires : goal.frame_item-requires
frame_item-requires c = (facts (goal.at.frame_item-requires c).Else-not-is_good).place

pub returns : goal.returns
returns c =
    let args = c.args in
    item_turn args.bytes.now args.d c.frame_item.result from_next (is-good (goal.at.returns c).Else-not-is_good) (turn_next args.d c.if-d.false (not-false _ c.if-not-d.false) c.if-d-gt0.false) c.frame_item.ensures
