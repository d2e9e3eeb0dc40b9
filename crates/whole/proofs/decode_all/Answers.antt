-- `whole::decode_all` meets its contract. Assumes nothing.
use mathlib.Core.Path.{sym, ap, ◌∙◌}
use mathlib.Core.List.{List}
use native.Mathlib.Omega.{arith}
use lib.IntN.{ℤ}
use lib.ListN.{length}
use Rattle.std.proofs.lemmas.List.{take_rest}
use Rattle.refusal.specs.Rules.{Answer, good}
use Rattle.refusal.proofs.Told.{exit_told}
use Rattle.file.specs.Whole.{Audio}
use Rattle.refusal.specs.Lent.{laid_over}
use Rattle.whole.specs.Told.{heard_in, summary_in}
use Rattle.whole.proofs.Calls.{Needs, audio_held, enough_room, file_needs, file_refused, head_there, held_room, no_room}
use Rattle.refusal.specs.declared.Summary.{Summary}
use Rattle.whole.proofs.decode_all.Goals as goal
use Rattle.whole.proofs.decode_all.Goals.{In_ok-summary}

-- nothing was refused
needs : (c : In_ok-summary) → Needs (length c.args.out.now) c.args.bytes.now c.in_ok-summary.summary
needs c = file_needs _ _ _ (sym c.in_ok-summary.ensures)

pub returns-in_err-summary : goal.returns-in_err-summary
unfolding laid_over
returns-in_err-summary c =
    let refusal = file_refused (length c.args.out.now) c.args.bytes.now _ (sym c.in_err-summary.ensures) in
    record { answer = exit_told _ _ c.from_residual.ensures.1 ∙ sym (ap summary_in refusal); samples = sym (ap (λ (a : Answer Audio). laid_over c.args.out.now 0 (heard_in a)) refusal) }

pub returns-then-out-summary : goal.returns-then-out-summary
unfolding laid_over
returns-then-out-summary c =
    let refusal = no_room _ _ _ (needs (goal.at.returns-then-out-summary c).In_ok-summary) (omega arith) in
    record { answer = sym (ap summary_in refusal); samples = sym (ap (λ (a : Answer Audio). laid_over c.args.out.now 0 (heard_in a)) refusal) }

pub slice_bounds-decode_held-count : goal.slice_bounds-decode_held-count
slice_bounds-decode_held-count c = head_there _ _ _ (needs (goal.at.slice_bounds-decode_held-count c).In_ok-summary)

pub slice_bounds-decode_held-start : goal.slice_bounds-decode_held-start
slice_bounds-decode_held-start c = head_there _ _ _ (needs (goal.at.slice_bounds-decode_held-start c).In_ok-summary)

pub decode_held-requires : goal.decode_held-requires
decode_held-requires c = rw take_rest (held_room _ _ _ (needs (goal.at.decode_held-requires c).In_ok-summary) (omega arith))

pub returns : goal.returns
returns c =
    let all = needs (goal.at.returns c).In_ok-summary in
    let answer = enough_room _ _ _ all (omega arith) in
    record {
      answer = ap {B = Answer Summary} good (sym all.same) ∙ sym (ap summary_in answer);
      samples =
          rw take_rest at c.decode_held.ensures
          ∙ ap (λ (a : Answer (List ℤ)). laid_over c.args.out.now 0 a) (audio_held c.args.bytes.now all.audio all.found ∙ sym (ap heard_in answer));
    }
