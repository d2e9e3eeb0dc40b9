-- `groups::decode_groups` meets its contract. The loop's invariant: the first `j` channels have run, in the predictors and in `out`.
-- The measure is what is left of the channels. Assumes nothing.
use mathlib.Core.Path.{◌≡◌, refl, ◌∙◌}
use Prim.Native.Nat.{ℕ, ◌+◌, ◌*◌, ◌≤◌, ◌<◌}
use native.Mathlib.Nat.{mul-one, zero-add}
use native.Mathlib.Numerals.{add-one}
use native.Mathlib.Omega.{arith}
use lib.Arith.{digits_lt}
use lib.ListN.{length}
use Rattle.groups.specs.Parts.{groups_states}
use Rattle.word.proofs.Writes.{length_interleaved, written_other}
use Rattle.format.specs.Format.{slices_of}
use Rattle.format.specs.Predictor.{lms_of, no_lms}
use Rattle.groups.proofs.GroupLaws.{groups_flat, words_at}
use Rattle.groups.proofs.Parts.{word_room}
use Rattle.word.specs.Parts.{interleaved, written}
use Rattle.groups.proofs.decode_groups.Goals as goal
use Rattle.groups.proofs.decode_groups.Goals.{At-loop-j, In-loop-j}

pub loop-j-init : goal.loop-j-init
unfolding written interleaved
loop-j-init c = (omega arith, refl, refl)

-- a channel's predictor stands until its own turn
state_is : (c : At-loop-j) → lms_of c.loop-j.next c.loop-j.j ≡ lms_of c.args.states c.loop-j.j
state_is c =
    let j = c.loop-j.j in
    rw c.loop-j.invariant.1 (written_other _ c.args.states 0 1 j j no_lms (λ i h e. omega (arith, mul-one i)))

-- its slices are there, and its samples have their room
bytes_fit : (c : In-loop-j) →
    let args = c.args in
    (g : ℕ) → g < slices_of args.samples → args.at + 8 * c.loop-j.j + 8 * (g * args.channels) + 8 ≤ length args.bytes.now
bytes_fit c g h =
    omega (arith, word_room c.args.at c.args.channels c.loop-j.j g (slices_of c.args.samples) c.loop-j-test.true h, c.requires.whole)

samples_fit : (c : In-loop-j) →
    let args = c.args in
    (k : ℕ) → k < args.samples → args.start + c.loop-j.j + k * args.channels < length c.loop-j.out
samples_fit c k h =
    let below : k * c.args.channels + c.loop-j.j < c.args.samples * c.args.channels = digits_lt h c.loop-j-test.true in
    rw (c.loop-j.invariant.2, length_interleaved) (omega (arith, c.requires.room))

pub decode_channel-after-requires : goal.decode_channel-after-requires
decode_channel-after-requires c =
    record {
      small = (rw (state_is (goal.at.decode_channel-after-requires c).At-loop-j) (c.requires.weights c.loop-j.j c.loop-j-test.true), c.requires.small.1);
      whole = bytes_fit (goal.at.decode_channel-after-requires c).In-loop-j;
      room = samples_fit (goal.at.decode_channel-after-requires c).In-loop-j;
    }

pub loop-j-preserved : goal.loop-j-preserved
unfolding written interleaved
loop-j-preserved c =
    let args = c.args in
    let words_are = words_at args.bytes.now args.at args.channels c.loop-j.j in (
      omega arith,
      rw (add-one, zero-add, mul-one, c.decode_channel-after.ensures.state, words_are, state_is (goal.at.loop-j-preserved c).At-loop-j, c.loop-j.invariant.1),
      rw (c.decode_channel-after.ensures.samples, add-one, words_are, state_is (goal.at.loop-j-preserved c).At-loop-j, c.loop-j.invariant.2),
    )

pub returns : goal.returns
unfolding groups_states
returns c =
    let l = c.loop-j in
    let args = c.args in
    let done : l.j ≡ args.channels = omega arith in
    record { states = l.invariant.1 ∙ rw done; samples = l.invariant.2 ∙ rw done (groups_flat args.bytes.now args.at args.channels args.states args.out.now args.start args.samples c.requires.room) }
