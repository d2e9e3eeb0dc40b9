-- `whole::decode_frames` meets its contract. Assumes nothing.
use mathlib.Core.Path.{sym, ap, ◌∙◌}
use mathlib.Core.List.{List}
use lib.IntN.{ℤ}
use lib.ListN.{length}
use Rattle.refusal.specs.Rules.{Answer}
use Rattle.refusal.proofs.Told.{exit_told}
use Rattle.refusal.specs.Lent.{laid_over}
use Rattle.whole.specs.Told.{count_in}
use Rattle.whole.proofs.Calls.{frames_counted, frames_good, frames_refused, Streams}
use Rattle.whole.proofs.decode_frames.Goals as goal
use Rattle.whole.proofs.decode_frames.Goals.{In_ok-count}

-- nothing was refused
found : (c : In_ok-count) → Streams (length c.args.out.now) c.args.bytes.now c.in_ok-count.count
found c = frames_good _ _ _ (sym (c.in_ok-count.ensures ∙ frames_counted _ _))

pub returns-in_err-count : goal.returns-in_err-count
unfolding laid_over
returns-in_err-count c =
    let refusal = frames_refused (length c.args.out.now) c.args.bytes.now _ (sym (c.in_err-count.ensures ∙ frames_counted _ _)) in
    record { answer = exit_told _ _ c.from_residual.ensures.1 ∙ sym (ap count_in refusal); samples = sym (ap (λ (a : Answer (List ℤ)). laid_over c.args.out.now 0 a) refusal) }

pub decode_held-requires : goal.decode_held-requires
decode_held-requires c = let all = found (goal.at.decode_held-requires c).In_ok-count in rw all.are_held all.enough

pub returns : goal.returns
returns c =
    let all = found (goal.at.returns c).In_ok-count in
    record {
      answer = c.in_ok-count.ensures ∙ frames_counted _ _;
      samples = c.decode_held.ensures ∙ ap (λ (a : Answer (List ℤ)). laid_over c.args.out.now 0 a) (all.are_held ∙ sym all.answer);
    }
