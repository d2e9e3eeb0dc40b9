-- What the encoder's calls tell of a block's state is small enough for a code. Assumes nothing.
use Prim.Native.Nat.{ℕ, ◌<◌, ◌^◌}
use mathlib.Core.Path.{◌≡◌, refl}
use mathlib.Core.List.{List}
use mathlib.Core.Option.{Option, none, some}
use native.Mathlib.Omega.{arith}
use lib.Dec.{lit<}
use lib.IntN.{ℤ}
use Rattle.refusal.specs.Rules.{first_of}
use Rattle.format.specs.Format.{frame_length}
use Rattle.encoder.specs.Calls.{frame_told, head_told, if_some, refuses, refuses_14, wrote}
use Rattle.encoder.specs.Encoder.{EncoderView}
use Rattle.encoder.specs.Frame.{first_wide, encode_rules, per_channel}
use Rattle.encoder.specs.Head.{head_rules}
use Rattle.encoder.proofs.Done.{frame_fits}
use Rattle.encoder.proofs.Frames.{frame_most, frame_small}
use Rattle.oneshot.specs.OneShot.{shot_rules}
use Rattle.oneshot.specs.Parts.{Small}
use Rattle.oneshot.specs.Shots.{shot_told}
use Rattle.oneshot.proofs.Ends.{shot_fits}
use Rattle.oneshot.proofs.Small.{told_small}

pub head_small : (v : EncoderView) (room : ℕ) → Small (head_told v room)
head_small v room = by (first_of (head_rules v room))
  where
    by : (o : Option ℕ) → Small (if_some o refuses (wrote 8))
    by none = lit< tt
    by (some n) = tt

pub frame_told_small : (v : EncoderView) (samples : List ℤ) (room : ℕ) → Small (frame_told v samples room)
unfolding frame_told
frame_told_small v samples room = by (first_of (encode_rules v samples room)) (first_wide v.channels v.lms) refl refl
  where
    by : (o w : Option ℕ) → first_of (encode_rules v samples room) ≡ o → first_wide v.channels v.lms ≡ w
        → Small (if_some o refuses (if_some w (refuses_14 0) (wrote (frame_length v.channels (per_channel v samples)))))
    by (some n) w e f = tt
    by none (some j) e f = lit< tt
    by none none e f =
        let fits = (frame_fits v samples room e f).0 in
        omega (arith, frame_small v.channels (per_channel v samples) fits.few_channels fits.few_samples, frame_most)

pub file_told_small : (v : EncoderView) (samples : List ℤ) (room : ℕ) → v.total < 2 ^ 32 → Small (shot_told (shot_rules v samples room) v samples)
file_told_small v samples room l = told_small (shot_rules v samples room) v samples room l (shot_fits v samples room)
