-- What each encoding call answers, leaves in the lent output, and hands back. Assumes nothing.
use Rattle.std.specs.Prelude.{ℕ, ◌≡◌, List, ℤ, length, Result, Ok, Err}
use mathlib.Core.Option.{Option, none, some}
use Rattle.refusal.specs.Rules.{good, after, first_of}
use Rattle.refusal.specs.Lent.{laid_over}
use Rattle.format.specs.Format.{frame_length}
use Rattle.refusal.specs.Refusals.{number_of, told_refusal}
use Rattle.refusal.specs.declared.Done.{Done}
use Rattle.refusal.specs.declared.Refusal.{Refusal}
use Rattle.encoder.specs.Encoder.{EncoderView, encoder_view, create_rules, new_view, zero_encoder}
use Rattle.encoder.specs.Frame.{after_frame, first_wide, frame_bytes, encode_rules, per_channel}
use Rattle.encoder.specs.Head.{head_bytes, head_rules}
use Rattle.encoder.specs.declared.QoaEncoder.{QoaEncoder}
use Rattle.encoder.specs.declared.EncodeRefusal.{EncodeRefusal}
use Rattle.encoder.specs.declared.EncodeRefusal.TheVariants.{Refused, WeightRange}

-- what an encoding call tells: the bytes written; a refusal; or refusal 14, with the bytes that stand in the output and the channel
pub data Told : Type 0 where
  wrote : ℕ → Told
  refuses : ℕ → Told
  refuses_14 : ℕ → ℕ → Told

abbrev pub told_encode : Result ℕ EncodeRefusal → Told
told_encode (Ok n) = wrote n
told_encode (Err (Refused r)) = refuses (number_of r)
told_encode (Err (WeightRange count channel)) = refuses_14 count channel

-- what comes of a thing that is there, or else the other
abbrev pub if_some : {A B : Type 0} → Option B → (B → A) → A → A
if_some none f a = a
if_some (some b) f a = f b

-- on a refusal the state that was given, whole; else one that means the next
abbrev pub HandsBack : Told → QoaEncoder → EncoderView → QoaEncoder → Type 0
HandsBack (wrote n) given next back = encoder_view back ≡ next
HandsBack (refuses n) given next back = back ≡ given
HandsBack (refuses_14 count channel) given next back = back ≡ given

-- ---- creation

-- a new encoder; on a refusal all zero
abbrev pub NewState : Option ℕ → EncoderView → QoaEncoder → Type 0
NewState none v e = encoder_view e ≡ v
NewState (some n) v e = e ≡ zero_encoder

pub record CreateDone (c rate total : ℕ) (r : Done (Result Unit Refusal) QoaEncoder) : Type 0 where
  pub told : told_refusal r.answer ≡ first_of (create_rules c rate total)
  pub made : NewState (first_of (create_rules c rate total)) (new_view c rate total) r.state

-- ---- the file header

abbrev pub head_told : EncoderView → ℕ → Told
head_told v room = if_some (first_of (head_rules v room)) refuses (wrote 8)

abbrev pub head_memory : EncoderView → List ℕ → List ℕ
head_memory v out = laid_over out 0 (after (head_rules v (length out)) (good (head_bytes v.total)))

-- ---- a frame

unfoldable pub frame_told : EncoderView → List ℤ → ℕ → Told
frame_told v samples room =
    if_some (first_of (encode_rules v samples room)) refuses
    (if_some (first_wide v.channels v.lms) (refuses_14 0)
    (wrote (frame_length v.channels (per_channel v samples))))

unfoldable pub frame_memory : EncoderView → List ℤ → List ℕ → List ℕ
frame_memory v samples out =
    if_some (first_of (encode_rules v samples (length out))) (λ n. out)
    (if_some (first_wide v.channels v.lms) (λ j. out)
    (laid_over out 0 (good (frame_bytes v samples))))

pub record FrameDone (e : QoaEncoder) (samples : List ℤ) (out : List ℕ) (r : Done (Result ℕ EncodeRefusal) QoaEncoder) (left : List ℕ) : Type 0 where
  pub told : told_encode r.answer ≡ frame_told (encoder_view e) samples (length out)
  pub memory : left ≡ frame_memory (encoder_view e) samples out
  pub back : HandsBack (frame_told (encoder_view e) samples (length out)) e (after_frame (encoder_view e) samples) r.state
