-- `frames::enter_frame` meets its contract. Assumes nothing.
use mathlib.Core.Path.{◌≡◌, ap, ap₂, sym, ◌∙◌}
use mathlib.Core.Option.{Option, none}
use Prim.Native.Nat.{ℕ}
use native.Mathlib.Omega.{arith}
use Rattle.refusal.specs.Rules.{first_of}
use Rattle.format.specs.Format.{state_end}
use Rattle.format.specs.Header.{header_at, left_at}
use Rattle.format.specs.Checks.{frame_rules}
use Rattle.refusal.specs.Refusals.{told_refusal}
use Rattle.format.specs.declared.frame.FrameHeader.{FrameHeader}
use Rattle.format.specs.declared.checks.Kind.{Kind}
use Rattle.format.proofs.Checking as Checking
use Rattle.state.specs.View.{facts_in}
use Rattle.frames.specs.Frames.{entry_rules, kind_of}
use Rattle.state.specs.declared.FrameFacts.{FrameFacts}
use Rattle.std.specs.Prelude.{Some, Ok}
use Rattle.frames.proofs.FrameLaws.{enter_passed, enter_refused}
use Rattle.frames.proofs.enter_frame.Goals as goal
use Rattle.frames.proofs.enter_frame.Goals.{After-check_frame, In-Ok}

-- the rules of the header that was read
module _ (c : After-check_frame) where
  abbrev entry : FrameHeader → Option ℕ
  entry h = first_of (entry_rules c.args.d.mode h (left_at c.args.bytes.now c.args.place))

  checked : told_refusal c.check_frame.result ≡ entry (header_at c.args.bytes.now c.args.place)
  checked =
      let left = left_at c.args.bytes.now c.args.place in
      c.check_frame.ensures
      ∙ ap₂ (λ (k : Kind) (n : ℕ). first_of (frame_rules k c.read_header-h.result n left)) c.kind_of.ensures c.state_end-need.ensures
      ∙ ap entry c.read_header-h.ensures

passed : (c : In-Ok) → entry (goal.at.In-Ok c).After-check_frame (header_at c.args.bytes.now c.args.place) ≡ none
passed c = sym (checked (goal.at.In-Ok c).After-check_frame) ∙ ap told_refusal c.in-Ok.is

pub start_frame-requires : goal.start_frame-requires
start_frame-requires c =
    let args = c.args in
    let h = header_at args.bytes.now args.place in
    let was = c.read_header-h.ensures in
    let facts = Checking.passed (kind_of args.d.mode) h (state_end h.channels) (left_at args.bytes.now args.place) (passed (goal.at.start_frame-requires c).In-Ok) in
    (was, rw was facts.header.few_channels, rw was (omega (arith, facts.there, c.requires)))

pub returns-in-Err : goal.returns-in-Err
returns-in-Err c v mode-is at-is =
    let args = c.args in
    enter_refused args.bytes.now args.d v _ args.place c.requires mode-is at-is c.in-Err.why (sym (checked (goal.at.returns-in-Err c).After-check_frame) ∙ ap told_refusal c.in-Err.is) c.refused.ensures.0 c.refused.ensures.1

pub returns-in-Ok : goal.returns-in-Ok
returns-in-Ok c v mode-is at-is =
    let args = c.args in
    enter_passed args.bytes.now args.d v _ args.place c.requires mode-is at-is (passed (goal.at.returns-in-Ok c).In-Ok) (ap (λ (f : FrameFacts). Ok (Some f)) (c.from.ensures ∙ ap facts_in c.read_header-h.ensures)) (c.start_frame.ensures v mode-is at-is)
