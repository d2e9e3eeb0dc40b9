-- `frames::drop_rest` meets its contract. Assumes nothing.
use mathlib.Core.Path.{◌≡◌, ap}
use Prim.Native.Nat.{ℕ, ◌+◌, ◌*◌, ◌≤◌}
use native.Mathlib.Omega.{arith}
use lib.ListN.{length}
use Rattle.format.specs.Format.{max_channels}
use Rattle.state.specs.View.{view}
use Rattle.into.proofs.Counts.{slices_most}
use Rattle.frames.proofs.FrameLaws.{view_dropped}
use Rattle.into.proofs.Sound.{Sound, length_mapped, sound}
use borrow.Author.Rules.{rules}
use Rattle.frames.proofs.drop_rest.Goals as goal
use Rattle.frames.proofs.drop_rest.Goals.{After-slices_of-slices, Start}

facts : (c : Start) → Sound c.args.d (length c.args.bytes.now)
facts c = sound c.args.d (length c.args.bytes.now) c.requires.good

long : (c : Start) → length c.args.d.lms ≡ max_channels
long c = search length_mapped

small : (c : Start) → c.args.d.remaining ≤ 65535
small c = search rules

-- what remains ends within the bytes
there : (c : After-slices_of-slices) →
    let args = c.args in
    args.d.at + 8 * (c.slices_of-slices.result * args.d.frame.channels) ≤ length args.bytes.now
unfolding view
there c =
    let product = ap (λ (k : ℕ). k * c.args.d.frame.channels) c.slices_of-slices.ensures in
    omega (arith, c.requires.whole)

pub run_groups-requires : goal.run_groups-requires
run_groups-requires c =
    let s = facts (goal.at.run_groups-requires c).Start in
    record { small = (s.few_channels, omega (arith, c.slices_of-slices.ensures, slices_most c.args.d.remaining (small (goal.at.run_groups-requires c).Start))); whole = there (goal.at.run_groups-requires c).After-slices_of-slices; weights = s.weights }

pub overflow_mul-result : goal.overflow_mul-result
overflow_mul-result c = omega (arith, there (goal.at.overflow_mul-result c).After-slices_of-slices, c.well_formed)

pub overflow_mul-result-2 : goal.overflow_mul-result-2
overflow_mul-result-2 c = omega (arith, there (goal.at.overflow_mul-result-2 c).After-slices_of-slices, c.well_formed)

pub overflow_add-result : goal.overflow_add-result
overflow_add-result c = omega (arith, there (goal.at.overflow_add-result c).After-slices_of-slices, c.well_formed)

pub returns : goal.returns
returns c =
    let args = c.args in
    rw (c.run_groups.ensures, c.slices_of-slices.ensures) (view_dropped args.bytes.now args.d (omega (arith, long (goal.at.returns c).Start, (facts (goal.at.returns c).Start).few_channels)))
