-- `state::opening::first_frame` meets its contract. Assumes nothing.
use mathlib.Core.Path.{◌≡◌, ap, ap₂, sym, ◌∙◌}
use Prim.Native.Nat.{ℕ}
use native.Mathlib.Omega.{arith}
use Rattle.refusal.specs.Rules.{first_of}
use Rattle.refusal.specs.Refusals.{told_refusal}
use Rattle.format.specs.Format.{state_end}
use Rattle.format.specs.Header.{left_at}
use Rattle.format.specs.Checks.{frame_rules}
use Rattle.format.specs.declared.frame.FrameHeader.{FrameHeader}
use Rattle.format.specs.declared.checks.Kind.TheVariants.{Any}
use Rattle.refusal.proofs.Told.{exit_told}
use Rattle.state.specs.Opening.{first_rules}
use Rattle.state.proofs.Openings.{long_first, no_first}
use Rattle.state.proofs.opening.first_frame.Goals as goal
use Rattle.state.proofs.opening.first_frame.Goals.{After-check_frame}

pub returns-then-left-lt-QOA_HEADER_SIZE : goal.returns-then-left-lt-QOA_HEADER_SIZE
returns-then-left-lt-QOA_HEADER_SIZE c = rw (no_first c.args.bytes.now (omega arith))

-- the rules of the first frame, by the header that was read
told : (c : After-check_frame) → told_refusal c.check_frame.result ≡ first_of (first_rules c.args.bytes.now)
told c =
    let bytes = c.args.bytes.now in
    let h = c.read_header-h.result in
    let left = left_at bytes 8 in
    c.check_frame.ensures
    ∙ ap₂ (λ (n m : ℕ). first_of (frame_rules Any h n m)) c.state_end-need.ensures c.saturating_sub-left.ensures
    ∙ ap (λ (z : FrameHeader). first_of (frame_rules Any z (state_end z.channels) left)) c.read_header-h.ensures
    ∙ sym (long_first bytes (omega arith))

pub returns-in_err-check_frame : goal.returns-in_err-check_frame
returns-in_err-check_frame c =
    rw (exit_told _ _ c.from_residual.ensures.1, sym (told (goal.at.returns-in_err-check_frame c).After-check_frame) ∙ ap told_refusal c.in_err-check_frame.was)

pub returns : goal.returns
returns c = rw (sym (told (goal.at.returns c).After-check_frame) ∙ ap told_refusal c.in_ok-check_frame.was, c.read_header-h.ensures)
