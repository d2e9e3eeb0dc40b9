-- `encoder::frame::put_frame` meets its contract: the header, the predictors and the groups, one behind the other. Assumes nothing.
use mathlib.Core.Path.{◌≡◌, ◌∙◌}
use Prim.Native.Nat.{◌+◌, ◌*◌, ◌/◌, ◌≤◌, ◌<◌}
use native.Mathlib.Omega.{arith}
use lib.ListN.{length}
use Rattle.word.proofs.BytesLaws.{length_put}
use Rattle.format.specs.Format.{frame_len, frame_length, max_channels, most_rate, state_end}
use Rattle.format.specs.Predictor.{lms_of}
use Rattle.encoder.specs.Encoder.{encoder_view}
use Rattle.encoder.proofs.Frames.{after_of, frame_of, frame_most, frame_over, frame_small, frame_within}
use Rattle.body.proofs.Laids.{length_states}
use Rattle.refusal.proofs.Lents.{length_over}
use Rattle.encoder.proofs.frame.put_frame.Goals as goal
use Rattle.encoder.proofs.frame.put_frame.Goals.{After-put_states, After-write_be, Start}

-- what is required, over the state that the code holds
fits : (c : Start) →
    let channels = c.args.e.channels in
    let n = length c.args.samples.now / channels in
    (0 < channels) × (channels ≤ max_channels) × (c.args.e.rate ≤ most_rate) × (n * channels ≡ length c.args.samples.now) × (n ≤ frame_len) × (c.args.at + frame_length channels n ≤ length c.args.out.now)
unfolding encoder_view
fits c =
    let f = c.requires.frame_fits in
    (f.some_channels, f.few_channels, f.rate_fits, f.whole, f.few_samples, c.requires.samples_in_bounds)

-- the output is as long as it was
long-header : (c : After-write_be) → length c.write_be.new.out ≡ length c.args.out.now
long-header c = rw c.write_be.ensures (length_put 8 _ _ _)

long-states : (c : After-put_states) → length c.put_states.new.out ≡ length c.args.out.now
unfolding frame_length state_end
long-states c =
    let written = c.before.before.before.before.before in
    let same = long-header (goal.at.After-put_states c).After-write_be in
    rw c.put_states.ensures (length_over c.write_be.new.out (c.args.at + 8) _ (omega (arith, fits (goal.at.After-put_states c).Start, length_states c.args.e.channels (lms_of c.args.e.lms))) ∙ same)

pub nonzero_div-n : goal.nonzero_div-n
nonzero_div-n c = (fits (goal.at.nonzero_div-n c).Start).0

pub overflow_cast-header : goal.overflow_cast-header
overflow_cast-header c = omega (arith, fits (goal.at.overflow_cast-header c).Start)

pub overflow_cast-header-2 : goal.overflow_cast-header-2
overflow_cast-header-2 c =
    let f = fits (goal.at.overflow_cast-header-2 c).Start in
    omega (arith, c.frame_length.ensures, frame_small _ _ f.1 f.4, frame_most)

pub header_word-requires : goal.header_word-requires
header_word-requires c = omega (arith, fits (goal.at.header_word-requires c).Start)

pub write_be-requires : goal.write_be-requires
unfolding frame_length state_end
write_be-requires c = omega (arith, fits (goal.at.write_be-requires c).Start)

pub put_states-requires : goal.put_states-requires
unfolding frame_length state_end
put_states-requires c =
    omega (arith, fits (goal.at.put_states-requires c).Start, long-header (goal.at.put_states-requires c).After-write_be)

pub overflow_add-at-2 : goal.overflow_add-at-2
unfolding frame_length
overflow_add-at-2 c =
    omega (arith, fits (goal.at.overflow_add-at-2 c).Start, c.state_end.ensures, c.well_formed)

pub put_groups-next-requires : goal.put_groups-next-requires
unfolding frame_length
put_groups-next-requires c =
    let stored = c.before.before.before.before in
    let f = fits (goal.at.put_groups-next-requires c).Start in
    record { small = (f.0, f.1, f.4); whole = omega arith; room = omega (arith, c.state_end.ensures, long-states (goal.at.put_groups-next-requires c).After-put_states); weights = frame_within c.args.e c.args.samples.now c.requires.frame_fits }

pub returns : goal.returns
unfolding frame_length state_end
returns c =
    let put = c.before.before in
    let stored = put.before.before.before.before.before in
    let written = stored.before.before.before.before.before in
    let e = c.args.e in
    let samples = c.args.samples.now in record {
      state = after_of e samples c.put_groups-next.result c.put_groups-next.ensures.states;
      bytes = c.put_groups-next.ensures.bytes
          ∙ rw (c.state_end.ensures, c.put_states.ensures, c.write_be.ensures, c.header_word.ensures, c.frame_length.ensures, frame_of e samples)
          (frame_over c.args.out.now c.args.at _ (16 * e.channels) _ _ (omega (arith, length_states e.channels (lms_of e.lms))) (omega (arith, fits (goal.at.returns c).Start)));
    }
