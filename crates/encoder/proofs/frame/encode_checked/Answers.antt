-- `encoder::frame::encode_checked` meets its contract: 14, or the frame. Assumes nothing.
use mathlib.Core.Path.{◌≡◌, refl, ap, sym, ◌∙◌}
use mathlib.Core.Option.{none}
use Prim.Native.Nat.{◌≤◌}
use native.Mathlib.Omega.{arith}
use lib.ListN.{length}
use Rattle.format.specs.Format.{frame_length}
use Rattle.encoder.specs.Encoder.{encoder_view}
use Rattle.encoder.specs.Frame.{first_wide, encode_rules, per_channel}
use Rattle.encoder.specs.Calls.{Told, told_encode, wrote}
use Rattle.encoder.specs.Parts.{FrameFits, told_wide}
use Rattle.encoder.proofs.Done.{frame_done, frame_fits, frame_wide, good_left}
use Rattle.encoder.proofs.Frames.{wide_view}
use Rattle.encoder.proofs.GoodEncoders.{Good}
use Rattle.encoder.proofs.frame.encode_checked.Goals as goal
use Rattle.encoder.proofs.frame.encode_checked.Goals.{After-first_wide, In_default, Start}

facts : (s : Start) → Good (encoder_view s.args.e)
unfolding encode_rules
facts s = good_left _ _ s.requires

-- the first wide channel, as the definitions have it
said : (c : After-first_wide) → let e = c.args.e in told_wide c.first_wide.result ≡ first_wide (encoder_view e).channels (encoder_view e).lms
said c = c.first_wide.ensures ∙ wide_view c.args.e

pub first_wide-requires : goal.first_wide-requires
unfolding encoder_view
first_wide-requires c = (facts (goal.at.first_wide-requires c).Start).few_channels

-- there is none
narrow : (c : In_default) → let e = c.args.e in first_wide (encoder_view e).channels (encoder_view e).lms ≡ none
narrow c = sym (said (goal.at.In_default c).After-first_wide) ∙ ap told_wide c.in_default.is

fits : (c : In_default) →
    let args = c.args in
    FrameFits (encoder_view args.e) args.samples.now × (frame_length (encoder_view args.e).channels (per_channel (encoder_view args.e) args.samples.now) ≤ length args.out.now)
fits c = frame_fits (encoder_view c.args.e) c.args.samples.now (length c.args.out.now) c.requires (narrow c)

pub put_frame-requires : goal.put_frame-requires
unfolding encoder_view
put_frame-requires c = let f = fits (goal.at.put_frame-requires c).In_default in record { frame_fits = f.0; samples_in_bounds = omega (arith, f.1) }

pub nonzero_div-samples : goal.nonzero_div-samples
unfolding encoder_view
nonzero_div-samples c = (fits (goal.at.nonzero_div-samples c).In_default).0.some_channels

pub frame_length-requires : goal.frame_length-requires
unfolding encoder_view
frame_length-requires c = let f = (fits (goal.at.frame_length-requires c).In_default).0 in (omega (arith, f.few_channels), omega (arith, f.few_samples))

pub returns-in-Some : goal.returns-in-Some
returns-in-Some c =
    frame_wide _ _ _ _ _ _ c.requires (sym (said (goal.at.returns-in-Some c).After-first_wide) ∙ ap told_wide c.in-Some.is) (ap told_encode c.refused.ensures.0) refl c.refused.ensures.1

pub returns : goal.returns
unfolding encoder_view
returns c =
    let put = c.before.before.before in
    let told = put.before.before in
    frame_done _ _ _ _ _ c.requires (narrow (goal.at.returns c).In_default) (ap {B = Told} wrote c.frame_length.ensures) c.put_frame.ensures.bytes c.put_frame.ensures.state
