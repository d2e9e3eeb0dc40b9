-- `decoder::items::frame_item` meets its contract. Assumes nothing.
use borrow.Author.Rules.{rules}
use mathlib.Core.Path.{◌≡◌, refl, ap, sym, ◌∙◌}
use Rattle.refusal.specs.declared.Refusal.TheVariants.{Truncated}
use Rattle.format.specs.Grammar.{tail_ok}
use Rattle.format.specs.Header.{left_at}
use Rattle.state.specs.View.{view}
use Rattle.decoder.specs.Items.{settled}
use Rattle.frames.specs.Frames.{frame_read}
use Rattle.frames.specs.Parts.{EnterDone}
use Rattle.std.specs.Prelude.{None, Ok, Err}
use Rattle.frames.proofs.FrameLaws.{enter_end, enter_tail}
use Rattle.decoder.proofs.ItemLaws.{next_turn}
use Rattle.decoder.proofs.items.frame_item.Goals as goal
use Rattle.decoder.proofs.items.frame_item.Goals.{After-enter_frame-entered, After-tail_ok}

-- the end of the bytes
module _ (c : After-tail_ok) where
  tail_is : c.tail_ok.result ≡ tail_ok (left_at c.args.bytes.now c.args.d.at) (frame_read (settled (view c.args.d)))
  unfolding view
  tail_is = c.tail_ok.ensures ∙ ap (tail_ok (left_at c.args.bytes.now c.args.d.at)) c.has_read.ensures

pub returns-then-not-tail_ok : goal.returns-then-not-tail_ok
unfolding view
returns-then-not-tail_ok c =
    let tail = (goal.at.returns-then-not-tail_ok c).After-tail_ok in
    let args = c.args in
    next_turn args.bytes.now args.d (record { answer = Err Truncated; state = c.refused.result.state }) _ (sym c.refused.ensures.0)
    (enter_tail args.bytes.now args.d (settled (view args.d)) _ c.if-left-lt-QOA_HEADER_SIZE.true (sym (tail_is tail) ∙ c.if-not-tail_ok.true) refl c.refused.ensures.1)

pub returns-then-left-lt-QOA_HEADER_SIZE : goal.returns-then-left-lt-QOA_HEADER_SIZE
unfolding view
returns-then-left-lt-QOA_HEADER_SIZE c =
    let tail = (goal.at.returns-then-left-lt-QOA_HEADER_SIZE c).After-tail_ok in
    let args = c.args in
    next_turn args.bytes.now args.d (record { answer = Ok None; state = c.settle.result }) _ refl
    (enter_end args.bytes.now args.d (settled (view args.d)) _ c.if-left-lt-QOA_HEADER_SIZE.true (sym (tail_is tail) ∙ c.if-not-tail_ok.false) refl c.settle.ensures)

-- what is found at the place
found : (c : After-enter_frame-entered) →
    let args = c.args in
    EnterDone args.bytes.now args.d (settled (view args.d)) c.enter_frame-entered.result
unfolding view
found c = c.enter_frame-entered.ensures (settled (view c.args.d)) refl refl

pub returns : goal.returns
returns c =
    let args = c.args in
    next_turn args.bytes.now args.d c.enter_frame-entered.result _ (search rules) (found (goal.at.returns c).After-enter_frame-entered)
