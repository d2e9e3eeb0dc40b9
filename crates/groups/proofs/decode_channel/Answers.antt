-- `groups::decode_channel` meets its contract. The loop's invariant: the first `g` slices have run, in the predictor and in `out`,
-- where the last slice may be short. The measure is what is left of the slices. Assumes nothing.
use mathlib.Core.Path.{◌≡◌, refl, ◌∙◌}
use Prim.Native.Nat.{ℕ, ◌+◌, ◌*◌, ◌-◌, ◌≤◌, ◌<◌, min}
use native.Mathlib.Nat.{min-le_left, min-le_right, zero-min}
use native.Mathlib.Numerals.{add-one}
use native.Mathlib.Omega.{arith}
use lib.ListN.{length}
use Rattle.word.specs.Parts.{written}
use Rattle.word.proofs.Writes.{length_written}
use Rattle.lms.proofs.Bounds.{within_more}
use Rattle.format.specs.Format.{slices_of}
use Rattle.groups.specs.Channel.{run_after}
use Rattle.groups.proofs.Growth.{run_within}
use Rattle.groups.proofs.Runs.{channel_stored}
use Rattle.groups.proofs.decode_channel.Goals as goal
use Rattle.groups.proofs.decode_channel.Goals.{In-loop-g}

pub overflow_add-slices : goal.overflow_add-slices
overflow_add-slices c = omega arith

pub overflow_sub-slices : goal.overflow_sub-slices
overflow_sub-slices c = omega arith

pub loop-g-init : goal.loop-g-init
unfolding run_after written
loop-g-init c = (omega arith, refl, rw zero-min)

-- the slice's bytes are there
bytes_fit : (c : In-loop-g) →
    let args = c.args in
    args.at + 8 * (c.loop-g.g * args.channels) + 8 ≤ length args.bytes.now
unfolding slices_of
bytes_fit c =
    let h : c.loop-g.g < slices_of c.args.samples = omega arith in
    c.requires.whole c.loop-g.g h

pub overflow_mul-g : goal.overflow_mul-g
overflow_mul-g c = omega (arith, bytes_fit c, c.well_formed)

pub overflow_mul-g-in-loop-g : goal.overflow_mul-g-in-loop-g
overflow_mul-g-in-loop-g c = omega (arith, bytes_fit c, c.well_formed)

pub overflow_add-at : goal.overflow_add-at
overflow_add-at c = omega (arith, bytes_fit c, c.well_formed)

pub read_be-word-requires : goal.read_be-word-requires
read_be-word-requires c = bytes_fit c

pub overflow_mul-done : goal.overflow_mul-done
unfolding slices_of
overflow_mul-done c = omega arith

pub overflow_sub-samples : goal.overflow_sub-samples
unfolding slices_of
overflow_sub-samples c = omega arith

-- so many samples of the slice have their room
samples_fit : (c : In-loop-g) →
    let args = c.args in
    (i : ℕ) → i < min 20 (args.samples - 20 * c.loop-g.g) → args.start + 20 * c.loop-g.g * args.channels + i * args.channels < length args.out.now
samples_fit c i h =
    let inside : 20 * c.loop-g.g + i < c.args.samples = omega (arith, min-le_right 20 (c.args.samples - 20 * c.loop-g.g)) in
    omega (arith, c.requires.room (20 * c.loop-g.g + i) inside)

-- and it has a sample
some : (c : In-loop-g) → 0 < min 20 (c.args.samples - 20 * c.loop-g.g)
unfolding slices_of
some c = omega arith

pub overflow_mul-done-in-loop-g : goal.overflow_mul-done-in-loop-g
overflow_mul-done-in-loop-g c =
    omega (arith, samples_fit (goal.at.overflow_mul-done-in-loop-g c).In-loop-g 0 (some (goal.at.overflow_mul-done-in-loop-g c).In-loop-g), c.well_formed)

pub overflow_add-start : goal.overflow_add-start
overflow_add-start c =
    omega (arith, samples_fit (goal.at.overflow_add-start c).In-loop-g 0 (some (goal.at.overflow_add-start c).In-loop-g), c.well_formed)

pub decode_slice-state-requires : goal.decode_slice-state-requires
unfolding slices_of
decode_slice-state-requires c =
    let count_is = c.min-count.ensures in record {
      small = (rw c.loop-g.invariant.1 (within_more (omega arith) (run_within _ c.requires.small.0 c.loop-g.g)), rw count_is (min-le_left 20 _));
      room = λ i h. rw (c.loop-g.invariant.2, length_written) (samples_fit (goal.at.decode_slice-state-requires c).In-loop-g i (rw count_is at h));
    }

pub loop-g-preserved : goal.loop-g-preserved
unfolding run_after slices_of
loop-g-preserved c =
    let args = c.args in
    let word_is = c.read_be-word.ensures in
    let count_is = c.min-count.ensures in
    let whole : min (20 * c.loop-g.g) args.samples ≡ 20 * c.loop-g.g = omega arith in
    let more : 20 * c.loop-g.g + min 20 (args.samples - 20 * c.loop-g.g) ≡ min (20 * (c.loop-g.g + 1)) args.samples = omega arith in (
      omega arith,
      rw (c.decode_slice-state.ensures.state, word_is, c.loop-g.invariant.1, add-one),
      rw (c.decode_slice-state.ensures.samples, word_is, count_is, c.loop-g.invariant.1, c.loop-g.invariant.2, whole, ← more) (channel_stored _ _ _ _ _ _ _ (min-le_left 20 _)),
    )

pub returns : goal.returns
unfolding slices_of
returns c =
    let l = c.loop-g in
    let samples = c.args.samples in
    let done : l.g ≡ slices_of samples = omega arith in
    let all : min (20 * l.g) samples ≡ samples = omega arith in
    record { state = l.invariant.1 ∙ rw done; samples = l.invariant.2 ∙ rw all }
