-- What the one-shot calls answer, leave in the lent output, and hand back. Assumes nothing.
use Rattle.std.specs.Prelude.{ℕ, ◌≡◌, List, ◌++◌, ℤ, length, Result}
use Rattle.refusal.specs.Rules.{good, Rule, first_of}
use Rattle.encoder.specs.Encoder.{EncoderView, encoder_view, create_rules, new_view}
use Rattle.refusal.specs.Lent.{laid_over}
use Rattle.encoder.specs.Calls.{HandsBack, Told, if_some, refuses, refuses_14, told_encode, wrote}
use Rattle.encoder.specs.declared.QoaEncoder.{QoaEncoder}
use Rattle.refusal.specs.declared.Done.{Done}
use Rattle.encoder.specs.declared.EncodeRefusal.{EncodeRefusal}
use Rattle.oneshot.specs.OneShot.{state_before, bytes_before, file_bytes, file_need, frames_of, shot_rules, stop_in}

-- the refusals, then 14, which leaves the file header and the frames before the refused one, then the whole file
unfoldable pub shot_told : List Rule → EncoderView → List ℤ → Told
shot_told rules v samples =
    if_some (first_of rules) refuses
    (if_some (stop_in v samples (frames_of v)) (λ s. refuses_14 (length (bytes_before v samples s.frame)) s.channel)
    (wrote (file_need v)))

unfoldable pub shot_memory : List Rule → EncoderView → List ℤ → List ℕ → List ℕ
shot_memory rules v samples out =
    if_some (first_of rules) (λ n. out)
    (if_some (stop_in v samples (frames_of v)) (λ s. laid_over out 0 (good (bytes_before v samples s.frame)))
    (laid_over out 0 (good (file_bytes v samples))))

pub record ShotDone (e : QoaEncoder) (samples : List ℤ) (out : List ℕ) (r : Done (Result ℕ EncodeRefusal) QoaEncoder) (left : List ℕ) : Type 0 where
  pub told : told_encode r.answer ≡ shot_told (shot_rules (encoder_view e) samples (length out)) (encoder_view e) samples
  pub memory : left ≡ shot_memory (shot_rules (encoder_view e) samples (length out)) (encoder_view e) samples out
  pub back : HandsBack (shot_told (shot_rules (encoder_view e) samples (length out)) (encoder_view e) samples) e (state_before (encoder_view e) samples (frames_of (encoder_view e))) r.state

-- from a new encoder: 11, 12, 13, then 13, 7, 14
abbrev pub all_rules : ℕ → ℕ → ℕ → List ℤ → ℕ → List Rule
all_rules c rate total samples room = create_rules c rate total ++ shot_rules (new_view c rate total) samples room

pub record AllDone (c rate total : ℕ) (samples : List ℤ) (out : List ℕ) (r : Result ℕ EncodeRefusal) (left : List ℕ) : Type 0 where
  pub told : told_encode r ≡ shot_told (all_rules c rate total samples (length out)) (new_view c rate total) samples
  pub memory : left ≡ shot_memory (all_rules c rate total samples (length out)) (new_view c rate total) samples out
