-- `whole::need_after` meets its contract. Assumes nothing.
use Prim.Native.Nat.{ℕ}
use mathlib.Core.Path.{sym, ap, ◌∙◌}
use native.Mathlib.Omega.{arith}
use lib.ListN.{length-drop}
use Rattle.std.proofs.lemmas.List.{take_rest}
use Rattle.refusal.specs.Rules.{Answer, ◌then◌}
use Rattle.refusal.proofs.Told.{exit_told}
use Rattle.whole.specs.Told.{summary_in}
use Rattle.whole.proofs.Surveying.{no_frame, summary, surveyed}
use Rattle.whole.proofs.need_after.Goals as goal

pub returns-then-frames-lt-QOA_HEADER_SIZE : goal.returns-then-frames-lt-QOA_HEADER_SIZE
returns-then-frames-lt-QOA_HEADER_SIZE c = sym (ap summary_in (no_frame c.args.bytes.now c.args.fixed (omega (arith, length-drop 8 c.args.bytes.now))))

-- the walk's answer, with the first frame's channels and rate
pub returns-in_err-count : goal.returns-in_err-count
returns-in_err-count c =
    exit_told _ _ c.from_residual.ensures.1
    ∙ ap (λ (a : Answer ℕ). a then summary c.read_header-h.result.channels c.read_header-h.result.rate) (rw take_rest at c.in_err-count.ensures)
    ∙ sym (surveyed _ _ _ (sym (rw take_rest at c.read_header-h.ensures)) (omega arith) (omega (arith, length-drop 8 c.args.bytes.now)))

pub returns : goal.returns
returns c =
    ap (λ (a : Answer ℕ). a then summary c.read_header-h.result.channels c.read_header-h.result.rate) (rw take_rest at c.in_ok-count.ensures)
    ∙ sym (surveyed _ _ _ (sym (rw take_rest at c.read_header-h.ensures)) (omega arith) (omega (arith, length-drop 8 c.args.bytes.now)))
