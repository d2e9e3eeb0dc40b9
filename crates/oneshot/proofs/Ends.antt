-- What a one-shot call did, from the facts of its run: one law for each way that it ends. Assumes nothing.
use Prim.Native.Nat.{ℕ, ◌*◌, ◌≤◌}
use mathlib.Core.Path.{◌≡◌, ap, ◌∙◌}
use mathlib.Core.List.{List}
use mathlib.Core.Option.{none, some}
use native.Mathlib.Omega.{arith}
use lib.IntN.{ℤ}
use lib.ListN.{length}
use Rattle.refusal.specs.Rules.{good, Rule, first_of}
use Rattle.refusal.proofs.Rules.{fires_left, fires_right, quiet}
use Rattle.word.proofs.Tests.{tests}
use Rattle.encoder.specs.Encoder.{EncoderView, encoder_view, create_rules, new_view}
use Rattle.refusal.specs.Lent.{laid_over}
use Rattle.encoder.specs.Calls.{refuses, refuses_14, told_encode, wrote}
use Rattle.refusal.specs.declared.Done.{Done}
use Rattle.encoder.specs.declared.EncodeRefusal.{EncodeRefusal}
use Rattle.std.specs.Prelude.{Result}
use Rattle.encoder.specs.declared.QoaEncoder.{QoaEncoder}
use Rattle.encoder.proofs.Done.{good_left}
use Rattle.encoder.proofs.GoodEncoders.{Good}
use Rattle.oneshot.specs.OneShot.{Stop, state_before, bytes_before, file_bytes, file_need, frames_of, shot_rules, stop_in}
use Rattle.oneshot.specs.Shots.{AllDone, ShotDone, shot_memory, shot_told}

-- what the rules leave
pub record Shot (v : EncoderView) (samples : List ℤ) (room : ℕ) : Type 0 where
  pub good_state : Good v
  pub long : length samples ≡ v.total * v.channels
  pub enough : file_need v ≤ room

pub shot_fits : (v : EncoderView) (samples : List ℤ) (room : ℕ) → first_of (shot_rules v samples room) ≡ none → Shot v samples room
unfolding shot_rules
shot_fits v samples room e =
    let q = (quiet (shot_rules v samples room) e).1 in
    record { good_state = good_left v _ e; long = omega (arith, tests); enough = omega (arith, tests) }

module _ (e : QoaEncoder) (samples : List ℤ) (out : List ℕ) (r : Done (Result ℕ EncodeRefusal) QoaEncoder) (left : List ℕ) where
  abbrev shots_of : List Rule
  shots_of = shot_rules (encoder_view e) samples (length out)

  pub shot_refused : (n : ℕ) → first_of shots_of ≡ some n → told_encode r.answer ≡ refuses n → left ≡ out → r.state ≡ e → ShotDone e samples out r left
  unfolding shot_told shot_memory
  shot_refused n fired t m s = record { told = rw fired t; memory = rw fired m; back = rw fired s }

  pub shot_wide : (stop : Stop) → first_of shots_of ≡ none → stop_in (encoder_view e) samples (frames_of (encoder_view e)) ≡ some stop
      → told_encode r.answer ≡ refuses_14 (length (bytes_before (encoder_view e) samples stop.frame)) stop.channel → left ≡ laid_over out 0 (good (bytes_before (encoder_view e) samples stop.frame)) → r.state ≡ e
      → ShotDone e samples out r left
  unfolding shot_told shot_memory
  shot_wide stop quiet wide t m s = record { told = rw (quiet, wide) t; memory = rw (quiet, wide) m; back = rw (quiet, wide) s }

  pub shot_done : first_of shots_of ≡ none → stop_in (encoder_view e) samples (frames_of (encoder_view e)) ≡ none → told_encode r.answer ≡ wrote (file_need (encoder_view e)) → left ≡ laid_over out 0 (good (file_bytes (encoder_view e) samples))
      → encoder_view r.state ≡ state_before (encoder_view e) samples (frames_of (encoder_view e)) → ShotDone e samples out r left
  unfolding shot_told shot_memory
  shot_done quiet wide t m s = record { told = rw (quiet, wide) t; memory = rw (quiet, wide) m; back = rw (quiet, wide) s }

-- from a new encoder
module _ (c rate total : ℕ) (samples : List ℤ) (out : List ℕ) (r : Result ℕ EncodeRefusal) (left : List ℕ) where
  abbrev later : List Rule
  later = shot_rules (new_view c rate total) samples (length out)

  pub all_refused : (n : ℕ) → first_of (create_rules c rate total) ≡ some n → told_encode r ≡ refuses n → left ≡ out → AllDone c rate total samples out r left
  unfolding shot_told shot_memory
  all_refused n fired t m =
      let first = fires_left (create_rules c rate total) later n fired in
      record { told = rw first t; memory = rw first m }

  pub all_done : (s : QoaEncoder) (done : Done (Result ℕ EncodeRefusal) QoaEncoder) → first_of (create_rules c rate total) ≡ none → encoder_view s ≡ new_view c rate total → r ≡ done.answer → ShotDone s samples out done left
      → AllDone c rate total samples out r left
  unfolding shot_told shot_memory
  all_done s done quiet new same d =
      let second = fires_right (create_rules c rate total) later quiet in
      record { told = rw (second, ← new) (ap told_encode same ∙ d.told); memory = rw (second, ← new) d.memory }
