-- `survey::walk_frames` meets its contract. Assumes nothing.
use mathlib.Core.Path.{sym, ◌∙◌}
use native.Mathlib.Omega.{arith}
use lib.ListN.{length-drop}
use Rattle.std.proofs.lemmas.List.{take_rest}
use Rattle.refusal.proofs.Told.{exit_told}
use Rattle.format.proofs.Checking.{passed}
use Rattle.file.proofs.Frames.{frame_eight}
use Rattle.survey.proofs.FrameKinds.{rules_here}
use Rattle.survey.proofs.Walking.{ended, one_frame, refused_end, refused_turn}
use Rattle.survey.proofs.walk_frames.Goals as goal

pub returns-in_err-check_frame : goal.returns-in_err-check_frame
returns-in_err-check_frame c =
    let rules = rules_here c.args.kind c.loop-rest.rest.now _ _ c.read_header-h.ensures c.length-length.ensures in
    exit_told _ _ c.from_residual.ensures.1
    ∙ sym (c.loop-rest.invariant.same ∙ refused_turn _ _ _ _ _ (omega arith) (rules ∙ sym c.in_err-check_frame.ensures))

pub slice_bounds-rest-count : goal.slice_bounds-rest-count
slice_bounds-rest-count c = (passed _ _ _ _ (sym c.in_ok-check_frame.ensures)).there

pub slice_bounds-rest-start : goal.slice_bounds-rest-start
slice_bounds-rest-start c = (passed _ _ _ _ (sym c.in_ok-check_frame.ensures)).there

pub loop-rest-smaller : goal.loop-rest-smaller
loop-rest-smaller c =
    let there = (passed _ _ _ _ (sym c.in_ok-check_frame.ensures)).there in
    simp (take_rest, length-drop) (omega (arith, there, c.length-length.ensures, frame_eight c.read_header-h.result))

pub loop-rest-preserved : goal.loop-rest-preserved
loop-rest-preserved c =
    let there = (passed _ _ _ _ (sym c.in_ok-check_frame.ensures)).there in
    let rules = rules_here c.args.kind c.loop-rest.rest.now _ _ c.read_header-h.ensures c.length-length.ensures in
    record {
      capped = omega arith;
      same =
          rw take_rest (c.loop-rest.invariant.same
          ∙ one_frame _ _ c.loop-rest.need _ (rw (c.length-length.ensures, c.read_header-h.ensures) at there) (omega arith) (rules ∙ sym c.in_ok-check_frame.ensures)
          ∙ rw (c.min-need.ensures, c.sample_count.ensures.0, c.length-length.ensures, c.read_header-h.ensures));
    }

pub returns-in_err-check_end : goal.returns-in_err-check_end
returns-in_err-check_end c =
    exit_told _ _ c.from_residual-in_err-check_end.ensures.1
    ∙ sym (c.loop-rest.invariant.same ∙ refused_end _ _ _ _ _ (omega arith) (sym c.in_err-check_end.ensures))

pub returns : goal.returns
returns c = c.fit_count.ensures ∙ sym (c.loop-rest.invariant.same ∙ ended _ _ _ _ (omega arith) (sym c.in_ok-check_end.ensures))
