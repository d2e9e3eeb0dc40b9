-- `format::frame::check_header` meets its contract: the first rule of `header_rules` that fires. Assumes nothing.
use mathlib.Core.Path.{◌≡◌, ap, sym}
use Prim.Native.Nat.{ℕ, ◌-◌, ◌/◌, ◌%◌}
use native.Mathlib.Omega.{arith}
use Rattle.refusal.proofs.Rules.{fires, none_fires}
use Rattle.word.proofs.Tests.{tests}
use Rattle.format.specs.Header.{header_rules, size_slices}
use Rattle.format.specs.declared.frame.FrameHeader.{FrameHeader}
use Rattle.format.proofs.frame.check_header.Goals as goal
use Rattle.format.proofs.frame.check_header.Goals.{After-state_end-state, then-c-eq0-via-then-c-eq0, then-c-eq0-via-else-c-eq0+then-h-eq0, then-c-eq0-via-else-c-eq0+else-h-eq0+then-size-state, then-k-c-ne0-via-then-k-c-ne0, then-k-c-ne0-via-else-k-c-ne0+then-k-c-gt-QOA_SLICES_PER_FRAME}

abbrev header : After-state_end-state → FrameHeader
header c = c.args.h

-- the slices for which the size field has room, as the code counts them
abbrev counted : After-state_end-state → ℕ
counted c = ((header c).size - c.state_end-state.result) / 8

groups : (c : After-state_end-state) → (counted c % (header c).channels ≡ size_slices (header c) % (header c).channels) × (counted c / (header c).channels ≡ size_slices (header c) / (header c).channels)
unfolding size_slices
groups c =
    let h = header c in
    let same : counted c ≡ size_slices h = ap (λ (s : ℕ). (h.size - s) / 8) c.state_end-state.ensures in
    (ap (λ (k : ℕ). k % h.channels) same, ap (λ (k : ℕ). k / h.channels) same)

pub returns-then-c-eq0 : goal.returns-then-c-eq0
unfolding header_rules
returns-then-c-eq0 c =
    elim c.then-c-eq0.branch [
      | then-c-eq0-via-then-c-eq0 w ↦ sym (fires 0 _ 3 (omega (arith, tests)))
      | then-c-eq0-via-else-c-eq0+then-h-eq0 w ↦ sym (fires 1 _ 3 (omega (arith, tests)))
      | then-c-eq0-via-else-c-eq0+else-h-eq0+then-size-state w ↦ sym (fires 2 _ 3 (omega (arith, tests)))
    ]

pub returns-then-k-c-ne0 : goal.returns-then-k-c-ne0
unfolding header_rules
returns-then-k-c-ne0 c =
    let g = groups (goal.at.returns-then-k-c-ne0 c).After-state_end-state in
    elim c.then-k-c-ne0.branch [
      | then-k-c-ne0-via-then-k-c-ne0 w ↦ sym (fires 3 _ 3 (omega (arith, tests)))
      | then-k-c-ne0-via-else-k-c-ne0+then-k-c-gt-QOA_SLICES_PER_FRAME w ↦ sym (fires 4 _ 3 (omega (arith, tests)))
    ]

pub returns-then-c-gt-QOA_MAX_CHANNELS : goal.returns-then-c-gt-QOA_MAX_CHANNELS
unfolding header_rules
returns-then-c-gt-QOA_MAX_CHANNELS c = sym (fires 5 _ 6 (omega (arith, tests, groups (goal.at.returns-then-c-gt-QOA_MAX_CHANNELS c).After-state_end-state)))

pub returns : goal.returns
unfolding header_rules
returns c = sym (none_fires _ (omega (arith, tests, groups (goal.at.returns c).After-state_end-state)))
