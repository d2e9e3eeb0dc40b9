-- Each public contract settles its call: any two answers that it permits are equal, with states of one view. Assumes nothing.
use Prim.Native.Nat.{ℕ}
use mathlib.Core.Path.{◌≡◌, sym, ◌∙◌}
use mathlib.Core.List.{List}
use lib.IntN.{ℤ}
use lib.ListN.{length}
use Rattle.refusal.specs.Rules.{after, good}
use Rattle.refusal.proofs.Told.{told_lem}
use Rattle.encoder.specs.Encoder.{encoder_view}
use Rattle.refusal.specs.declared.Done.{Done}
use Rattle.encoder.specs.declared.EncodeRefusal.{EncodeRefusal}
use Rattle.std.specs.Prelude.{Result}
use Rattle.encoder.specs.declared.QoaEncoder.{QoaEncoder}
use Rattle.encoder.proofs.Settled.{back_one, told_encode_lem}
use Rattle.oneshot.specs.OneShot.{state_before, frames_of, need_of, need_rules, shot_rules}
use Rattle.oneshot.specs.Shots.{AllDone, ShotDone, shot_told}
use Rattle.refusal.specs.Refusals.{told}
use Rattle.refusal.specs.declared.Refusal.{Refusal}

-- ---- encode

pub shot_settled : (e : QoaEncoder) (samples : List ℤ) (out : List ℕ) (r s : Done (Result ℕ EncodeRefusal) QoaEncoder) (x y : List ℕ) → ShotDone e samples out r x → ShotDone e samples out s y
    → (r.answer ≡ s.answer) × (x ≡ y) × (encoder_view r.state ≡ encoder_view s.state)
shot_settled e samples out r s x y p q = (
  told_encode_lem r.answer s.answer (p.told ∙ sym q.told),
  p.memory ∙ sym q.memory,
  back_one (shot_told (shot_rules (encoder_view e) samples (length out)) (encoder_view e) samples) e (state_before (encoder_view e) samples (frames_of (encoder_view e))) r.state s.state p.back q.back,
)

-- ---- encode_all

pub all_settled : (c rate total : ℕ) (samples : List ℤ) (out : List ℕ) (r s : Result ℕ EncodeRefusal) (x y : List ℕ) → AllDone c rate total samples out r x → AllDone c rate total samples out s y
    → (r ≡ s) × (x ≡ y)
all_settled c rate total samples out r s x y p q = (told_encode_lem r s (p.told ∙ sym q.told), p.memory ∙ sym q.memory)

-- ---- encode_need

pub need_settled : (c total : ℕ) (a b : Result ℕ Refusal) → told a ≡ after (need_rules c total) (good (need_of c total)) → told b ≡ after (need_rules c total) (good (need_of c total)) → a ≡ b
need_settled c total a b p q = told_lem a b (p ∙ sym q)
