-- What an accepted call says of the state and the samples that it was given. Assumes nothing.
use Prim.Native.Nat.{ℕ, ◌*◌}
use mathlib.Core.Path.{◌≡◌, refl}
use mathlib.Core.Bool.{Bool, true, false}
use mathlib.Core.List.{List, [], ◌∷◌}
use mathlib.Core.Option.{Option, none, some}
use native.Mathlib.Omega.{arith}
use lib.Dec.{T}
use lib.IntN.{ℤ}
use lib.ListN.{length}
use Rattle.refusal.specs.Rules.{Rule, first_of}
use Rattle.refusal.proofs.Rules.{Quiet, quiet, quiet_parts}
use Rattle.word.proofs.Tests.{nnot, tests}
use Rattle.format.specs.Format.{frame_length}
use Rattle.encoder.specs.Encoder.{EncoderView, create_rules, good_encoder, new_view}
use Rattle.encoder.specs.Frame.{after_frame, first_wide, encode_rules, per_channel}
use Rattle.oneshot.specs.OneShot.{file_need, frames_of, shot_rules, stop_in}
use Rattle.encoder.specs.Head.{head_rules}
use Rattle.encoder.specs.Calls.{Told, frame_told, head_told, if_some, refuses, refuses_14, wrote}
use Rattle.oneshot.specs.Shots.{all_rules, shot_told}
use Rattle.encoder.proofs.GoodEncoders.{Good, good_facts}
use Rattle.theorems.specs.Finished.{Accepted, AllAccepted}
use Rattle.theorems.proofs.Files.{AllTaken}
use Rattle.theorems.proofs.Frames.{Taken}

-- what tells of bytes written is not what a refusal tells
some_never : {B : Type 0} (o : Option B) (f : B → Told) (a : Told) (n : ℕ) → ((b : B) → f b ≡ wrote n → ⊥) → if_some o f a ≡ wrote n → (o ≡ none) × (a ≡ wrote n)
some_never none f a n never e = (refl, e)
some_never (some b) f a n never e = absurd (never b e)

refuses_not : (m n : ℕ) → refuses m ≡ wrote n → ⊥
refuses_not m n e = let z : ◌≡◌ {A = ℕ} 0 1 = cc in omega arith

refuses_14_not : (m j n : ℕ) → refuses_14 m j ≡ wrote n → ⊥
refuses_14_not m j n e = let z : ◌≡◌ {A = ℕ} 0 1 = cc in omega arith

is_true : (b : Bool) → T b → b ≡ true
is_true true t = refl
is_true false t = absurd t

wrote_same : (m n : ℕ) → wrote m ≡ wrote n → m ≡ n
wrote_same m n e = cc

-- ---- the file header, and a frame

pub head_passed : (v : EncoderView) (room count : ℕ) → head_told v room ≡ wrote count → (first_of (head_rules v room) ≡ none) × (8 ≡ count)
head_passed v room count told =
    let passed = some_never (first_of (head_rules v room)) refuses _ count (λ m e. refuses_not m count e) told in
    (passed.0, wrote_same 8 count passed.1)

pub record FramePassed (v : EncoderView) (samples : List ℤ) (room count : ℕ) : Type 0 where
  pub quiet_rules : first_of (encode_rules v samples room) ≡ none
  pub narrow : first_wide v.channels v.lms ≡ none
  pub counted : frame_length v.channels (per_channel v samples) ≡ count

pub frame_passed : (v : EncoderView) (samples : List ℤ) (room count : ℕ) → frame_told v samples room ≡ wrote count → FramePassed v samples room count
unfolding frame_told
frame_passed v samples room count told =
    let passed = some_never (first_of (encode_rules v samples room)) refuses _ count (λ m e. refuses_not m count e) told in
    let narrow = some_never (first_wide v.channels v.lms) (refuses_14 0) _ count (λ j e. refuses_14_not 0 j count e) passed.1 in
    record { quiet_rules = passed.0; narrow = narrow.0; counted = wrote_same _ count narrow.1 }

pub taken : (v : EncoderView) (samples : List ℤ) → Accepted v samples → Taken v samples
unfolding encode_rules
taken v samples a =
    let passed = frame_passed v samples a.room a.count a.told in
    let q = quiet (encode_rules v samples a.room) passed.quiet_rules in
    record {
      good = good_facts v (is_true (good_encoder v) (nnot (good_encoder v) q.0));
      some_samples = omega (arith, tests);
      whole = omega (arith, tests);
      few_samples = omega (arith, tests);
      narrow = passed.narrow;
    }

pub all_taken : (v : EncoderView) (l : List (List ℤ)) → AllAccepted v l → AllTaken v l
all_taken v [] a = tt
all_taken v (xs ∷ more) a = (taken v xs a.0, all_taken (after_frame v xs) more a.1)

-- ---- one shot

pub record Shot (v : EncoderView) (samples : List ℤ) : Type 0 where
  pub good : Good v
  pub whole : length samples ≡ v.total * v.channels
  pub no_stop : stop_in v samples (frames_of v) ≡ none

by_rules : (v : EncoderView) (samples : List ℤ) (room : ℕ) → Quiet (shot_rules v samples room) → stop_in v samples (frames_of v) ≡ none → Shot v samples
unfolding shot_rules
by_rules v samples room q no_stop =
    record { good = good_facts v (is_true (good_encoder v) (nnot (good_encoder v) q.0)); whole = omega (arith, tests); no_stop = no_stop }

pub record ShotPassed (rules : List Rule) (v : EncoderView) (samples : List ℤ) (count : ℕ) : Type 0 where
  pub quiet_rules : first_of rules ≡ none
  pub no_stop : stop_in v samples (frames_of v) ≡ none
  pub counted : file_need v ≡ count

pub shot_passed : (rules : List Rule) (v : EncoderView) (samples : List ℤ) (count : ℕ) → shot_told rules v samples ≡ wrote count → ShotPassed rules v samples count
unfolding shot_told
shot_passed rules v samples count told =
    let passed = some_never (first_of rules) refuses _ count (λ m e. refuses_not m count e) told in
    let on = some_never (stop_in v samples (frames_of v)) _ _ count (λ s e. refuses_14_not _ s.channel count e) passed.1 in
    record { quiet_rules = passed.0; no_stop = on.0; counted = wrote_same _ count on.1 }

pub shot : (v : EncoderView) (samples : List ℤ) (room count : ℕ) → shot_told (shot_rules v samples room) v samples ≡ wrote count → Shot v samples
shot v samples room count told =
    let passed = shot_passed (shot_rules v samples room) v samples count told in
    by_rules v samples room (quiet (shot_rules v samples room) passed.quiet_rules) passed.no_stop

-- from the start
pub shot_new : (c rate total : ℕ) (samples : List ℤ) (room count : ℕ) → shot_told (all_rules c rate total samples room) (new_view c rate total) samples ≡ wrote count
    → Shot (new_view c rate total) samples
shot_new c rate total samples room count told =
    let v = new_view c rate total in
    let rules = all_rules c rate total samples room in
    let passed = shot_passed rules v samples count told in
    let both = quiet_parts (create_rules c rate total) (shot_rules v samples room) (quiet rules passed.quiet_rules) in
    by_rules v samples room both.1 passed.no_stop
