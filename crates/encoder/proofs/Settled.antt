-- Each public contract settles its call: what an answer tells is one-to-one, and any two answers that a contract permits are equal, with states of one view.
-- Assumes nothing.
use Prim.Native.Nat.{ℕ}
use mathlib.Core.Path.{◌≡◌, refl, sym, ap, ◌∙◌}
use mathlib.Core.List.{List}
use mathlib.Core.Option.{Option, none, some}
use lib.IntN.{ℤ}
use lib.ListN.{length}
use Rattle.refusal.specs.Rules.{first_of}
use Rattle.refusal.proofs.Told.{by_number, number_back, told_refusal_lem, told_one}
use Rattle.encoder.specs.Encoder.{EncoderView, encoder_view, create_rules, new_view}
use Rattle.encoder.specs.Frame.{after_frame}
use Rattle.encoder.specs.Calls.{CreateDone, FrameDone, HandsBack, NewState, Told, frame_told, head_memory, head_told, refuses, refuses_14, told_encode, wrote}
use Rattle.encoder.specs.declared.EncodeRefusal.{EncodeRefusal}
use Rattle.encoder.specs.declared.EncodeRefusal.TheVariants.{Refused, WeightRange}
use Rattle.refusal.specs.declared.Done.{Done}
use Rattle.refusal.specs.declared.Refusal.{Refusal}
use Rattle.std.specs.Prelude.{Result, Ok, Err}
use Rattle.encoder.specs.declared.QoaEncoder.{QoaEncoder}

-- ---- what is told is one-to-one

-- the code's answer for what is told
abbrev answer_for : Told → Result ℕ EncodeRefusal
answer_for (wrote n) = Ok n
answer_for (refuses n) = Err (Refused (by_number n))
answer_for (refuses_14 n j) = Err (WeightRange n j)

pub told_encode_lem : (a b : Result ℕ EncodeRefusal) → told_encode a ≡ told_encode b → a ≡ b
told_encode_lem = told_one told_encode answer_for (elim [ Ok n ↦ refl | Err (Refused r) ↦ ap (λ (q : Refusal). Err (Refused q)) (number_back r) | Err (WeightRange n j) ↦ refl ])

-- ---- new_encoder

new_one : (o : Option ℕ) (v : EncoderView) (d e : QoaEncoder) → NewState o v d → NewState o v e → encoder_view d ≡ encoder_view e
new_one none v d e p q = p ∙ sym q
new_one (some n) v d e p q = ap encoder_view (p ∙ sym q)

pub create_settled : (c rate total : ℕ) (r s : Done (Result Unit Refusal) QoaEncoder) → CreateDone c rate total r → CreateDone c rate total s → (r.answer ≡ s.answer) × (encoder_view r.state ≡ encoder_view s.state)
create_settled c rate total r s p q =
    (told_refusal_lem r.answer s.answer (p.told ∙ sym q.told), new_one (first_of (create_rules c rate total)) (new_view c rate total) r.state s.state p.made q.made)

-- ---- write_header

pub head_settled : (v : EncoderView) (out : List ℕ) (r s : Result ℕ EncodeRefusal) (x y : List ℕ) → (told_encode r ≡ head_told v (length out)) × (x ≡ head_memory v out)
    → (told_encode s ≡ head_told v (length out)) × (y ≡ head_memory v out) → (r ≡ s) × (x ≡ y)
head_settled v out r s x y p q = (told_encode_lem r s (p.0 ∙ sym q.0), p.1 ∙ sym q.1)

-- ---- encode_frame

-- two states that are handed back mean the same
pub back_one : (t : Told) (given : QoaEncoder) (next : EncoderView) (d e : QoaEncoder) → HandsBack t given next d → HandsBack t given next e → encoder_view d ≡ encoder_view e
back_one (wrote n) given next d e p q = p ∙ sym q
back_one (refuses n) given next d e p q = ap encoder_view (p ∙ sym q)
back_one (refuses_14 n j) given next d e p q = ap encoder_view (p ∙ sym q)

pub frame_settled : (e : QoaEncoder) (samples : List ℤ) (out : List ℕ) (r s : Done (Result ℕ EncodeRefusal) QoaEncoder) (x y : List ℕ) → FrameDone e samples out r x → FrameDone e samples out s y
    → (r.answer ≡ s.answer) × (x ≡ y) × (encoder_view r.state ≡ encoder_view s.state)
frame_settled e samples out r s x y p q = (
  told_encode_lem r.answer s.answer (p.told ∙ sym q.told),
  p.memory ∙ sym q.memory,
  back_one (frame_told (encoder_view e) samples (length out)) e (after_frame (encoder_view e) samples) r.state s.state p.back q.back,
)
