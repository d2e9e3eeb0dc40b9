-- What a call did, from the facts of its run: one law for each way that it ends. Assumes nothing.
use Prim.Native.Nat.{ℕ, zero, suc, ◌*◌, ◌≤◌, ◌<◌}
use mathlib.Core.Path.{◌≡◌, refl, sym, ◌∙◌}
use mathlib.Core.Bool.{Bool, true, false, not}
use mathlib.Core.List.{List, ◌∷◌}
use mathlib.Core.Option.{Option, none, some}
use native.Mathlib.Nat.{div-add-mod', zero-mul}
use native.Mathlib.Omega.{arith}
use lib.Dec.{T}
use lib.IntN.{ℤ}
use lib.ListN.{length}
use Rattle.refusal.specs.Rules.{good, Rule, ◌gives◌, first_of}
use Rattle.refusal.proofs.Rules.{quiet}
use Rattle.word.proofs.Tests.{nnot, tests}
use Rattle.format.specs.Format.{frame_length, max_channels, most_rate}
use Rattle.encoder.specs.Encoder.{EncoderView, encoder_view, create_rules, good_encoder, new_view, zero_encoder}
use Rattle.encoder.specs.Frame.{after_frame, first_wide, frame_bytes, encode_rules, per_channel}
use Rattle.encoder.specs.Head.{head_bytes, head_rules}
use Rattle.refusal.specs.Lent.{laid_over}
use Rattle.encoder.specs.Calls.{CreateDone, FrameDone, NewState, frame_memory, frame_told, head_memory, head_told, refuses, refuses_14, told_encode, wrote}
use Rattle.encoder.specs.Parts.{FrameFits}
use Rattle.encoder.specs.declared.EncodeRefusal.{EncodeRefusal}
use Rattle.encoder.specs.declared.QoaEncoder.{QoaEncoder}
use Rattle.encoder.proofs.GoodEncoders.{Good, good_facts}
use Rattle.refusal.specs.Refusals.{told_refusal}
use Rattle.refusal.specs.declared.Done.{Done}
use Rattle.refusal.specs.declared.Refusal.{Refusal}
use Rattle.std.specs.Prelude.{Result}

-- ---- creation

module _ (c rate total : ℕ) (r : Done (Result Unit Refusal) QoaEncoder) where
  pub create_refused : (n : ℕ) → first_of (create_rules c rate total) ≡ some n → told_refusal r.answer ≡ some n → r.state ≡ zero_encoder → CreateDone c rate total r
  create_refused n e t s = record { told = rw e t; made = rw e s }

  pub created : first_of (create_rules c rate total) ≡ none → told_refusal r.answer ≡ none → encoder_view r.state ≡ new_view c rate total → CreateDone c rate total r
  created e t s = record { told = rw e t; made = rw e s }

-- and what it tells of the rules
made_new : (o : Option ℕ) (v : EncoderView) (s : QoaEncoder) → o ≡ none → NewState o v s → encoder_view s ≡ v
made_new none v s e m = m
made_new (some n) v s e m = let z : ◌≡◌ {A = ℕ} 0 1 = cc in absurd (omega arith)

module _ (c rate total : ℕ) (r : Done (Result Unit Refusal) QoaEncoder) (d : CreateDone c rate total r) where
  pub was_refused : (n : ℕ) → told_refusal r.answer ≡ some n → first_of (create_rules c rate total) ≡ some n
  was_refused n e = sym d.told ∙ e

  pub was_created : told_refusal r.answer ≡ none → (first_of (create_rules c rate total) ≡ none) × (encoder_view r.state ≡ new_view c rate total)
  was_created e =
      let quiet = sym d.told ∙ e in
      (quiet, made_new (first_of (create_rules c rate total)) (new_view c rate total) r.state quiet d.made)

-- what the rules leave
pub record Creatable (c rate total : ℕ) : Type 0 where
  pub some_channels : 0 < c
  pub few_channels : c ≤ max_channels
  pub some_rate : 0 < rate
  pub rate_fits : rate ≤ most_rate
  pub some_total : 0 < total

pub creatable : (c rate total : ℕ) → first_of (create_rules c rate total) ≡ none → Creatable c rate total
unfolding create_rules
creatable c rate total e = let q = quiet (create_rules c rate total) e in omega (arith, tests)

-- ---- 8 comes first

is_true : (b : Bool) → T b → b ≡ true
is_true true t = refl
is_true false t = absurd t

module _ (v : EncoderView) (rules : List Rule) where
  abbrev guarded : List Rule
  guarded = (not (good_encoder v) gives 8) ∷ rules

  pub bad_first : good_encoder v ≡ false → first_of guarded ≡ some 8
  unfolding first_of
  bad_first e = rw e

  pub good_first : good_encoder v ≡ true → first_of guarded ≡ first_of rules
  unfolding first_of
  good_first e = rw e

  pub good_left : first_of guarded ≡ none → Good v
  good_left e = good_facts v (is_true (good_encoder v) (nnot (good_encoder v) (quiet guarded e).0))

-- ---- the file header

module _ (v : EncoderView) (out : List ℕ) where
  pub head_refused : (n : ℕ) → first_of (head_rules v (length out)) ≡ some n → (refuses n ≡ head_told v (length out)) × (out ≡ head_memory v out)
  unfolding laid_over
  head_refused n e = rw e (refl, refl)

  pub head_done : (left : List ℕ) → first_of (head_rules v (length out)) ≡ none → left ≡ laid_over out 0 (good (head_bytes v.total)) → (wrote 8 ≡ head_told v (length out)) × (left ≡ head_memory v out)
  head_done left e m = rw e (refl, m)

-- ---- a frame

module _ (e : QoaEncoder) (samples : List ℤ) (out : List ℕ) (r : Done (Result ℕ EncodeRefusal) QoaEncoder) (left : List ℕ) where
  abbrev rules_of : List Rule
  rules_of = encode_rules (encoder_view e) samples (length out)

  pub frame_refused : (n : ℕ) → first_of rules_of ≡ some n → told_encode r.answer ≡ refuses n → left ≡ out → r.state ≡ e → FrameDone e samples out r left
  unfolding frame_told frame_memory
  frame_refused n fired t m s = record { told = rw fired t; memory = rw fired m; back = rw fired s }

  pub frame_wide : (j : ℕ) → first_of rules_of ≡ none → first_wide (encoder_view e).channels (encoder_view e).lms ≡ some j → told_encode r.answer ≡ refuses_14 0 j → left ≡ out → r.state ≡ e
      → FrameDone e samples out r left
  unfolding frame_told frame_memory
  frame_wide j quiet wide t m s = record { told = rw (quiet, wide) t; memory = rw (quiet, wide) m; back = rw (quiet, wide) s }

  pub frame_done : first_of rules_of ≡ none → first_wide (encoder_view e).channels (encoder_view e).lms ≡ none → told_encode r.answer ≡ wrote (frame_length (encoder_view e).channels (per_channel (encoder_view e) samples))
      → left ≡ laid_over out 0 (good (frame_bytes (encoder_view e) samples)) → encoder_view r.state ≡ after_frame (encoder_view e) samples → FrameDone e samples out r left
  unfolding frame_told frame_memory
  frame_done quiet wide t m s = record { told = rw (quiet, wide) t; memory = rw (quiet, wide) m; back = rw (quiet, wide) s }

-- a whole number of samples for each channel
some_of : (n c long : ℕ) → n * c ≡ long → 0 < long → 0 < n
some_of zero c long e h = omega (arith, zero-mul c)
some_of (suc n) c long e h = omega arith

-- what the rules leave
pub frame_fits : (v : EncoderView) (samples : List ℤ) (room : ℕ) → first_of (encode_rules v samples room) ≡ none → first_wide v.channels v.lms ≡ none
    → FrameFits v samples × (frame_length v.channels (per_channel v samples) ≤ room)
unfolding encode_rules
frame_fits v samples room e narrow =
    let g = good_left v _ e in
    let q = (quiet (encode_rules v samples room) e).1 in
    let whole : per_channel v samples * v.channels ≡ length samples = omega (arith, tests, div-add-mod' (length samples) v.channels) in (
      record {
        some_channels = g.some_channels;
        few_channels = g.few_channels;
        rate_fits = g.rate_fits;
        whole = whole;
        some_samples = some_of (per_channel v samples) v.channels (length samples) whole (omega (arith, tests));
        few_samples = omega (arith, tests);
        narrow = narrow;
      },
      omega (arith, tests),
    )
