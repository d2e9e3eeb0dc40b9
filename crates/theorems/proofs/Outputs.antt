-- What an accepted call leaves in the lent output: up to the count that it tells, the bytes of the frame or the file; so the theorems hold of the code.
-- Assumes nothing.
use Prim.Native.Nat.{ℕ}
use mathlib.Core.Path.{◌≡◌, refl, sym, ◌∙◌}
use mathlib.Core.List.{List}
use lib.IntN.{ℤ}
use lib.ListN.{length, take}
use Rattle.refusal.specs.Rules.{good, Rule}
use Rattle.encoder.specs.Encoder.{EncoderView, new_view, encoder_view}
use Rattle.encoder.specs.Frame.{frame_bytes}
use Rattle.oneshot.specs.OneShot.{file_bytes, shot_rules}
use Rattle.encoder.specs.Head.{head_bytes}
use Rattle.oneshot.specs.Shots.{AllDone, ShotDone, all_rules, shot_memory, shot_told}
use Rattle.refusal.specs.Lent.{laid_over}
use Rattle.encoder.specs.Calls.{FrameDone, frame_memory, frame_told, head_memory, head_told, told_encode, wrote}
use Rattle.std.specs.Prelude.{Result}
use Rattle.refusal.specs.declared.Done.{Done}
use Rattle.encoder.specs.declared.EncodeRefusal.{EncodeRefusal}
use Rattle.encoder.specs.declared.QoaEncoder.{QoaEncoder}
use Rattle.refusal.proofs.Lents.{over_front}
use Rattle.oneshot.proofs.Files.{file_long}
use Rattle.encoder.proofs.Frames.{length_frame}
use Rattle.encoder.proofs.Heads.{length_head}
use Rattle.theorems.specs.Finished.{one_shot, from_start, bytes_in, given_in, start_in}
use Rattle.theorems.specs.Left.{FileLeft, FrameLeft}
use Rattle.theorems.proofs.Taking.{Shot, frame_passed, head_passed, shot, shot_new, shot_passed}

-- ---- after an accepted call for the file header

pub head_left : (v : EncoderView) (out : List ℕ) (count : ℕ) → head_told v (length out) ≡ wrote count → take count (head_memory v out) ≡ head_bytes v.total
head_left v out count told =
    let passed = head_passed v (length out) count told in
    let bytes = head_bytes v.total in
    rw passed.0 (over_front out bytes count (length_head v.total ∙ passed.1))

-- ---- after an accepted call for a frame

pub frame_left : (e : QoaEncoder) (samples : List ℤ) (out : List ℕ) (r : Done (Result ℕ EncodeRefusal) QoaEncoder) (left : List ℕ) (count : ℕ)
    → FrameDone e samples out r left → told_encode r.answer ≡ wrote count → FrameLeft e samples count r.state left
unfolding frame_memory
frame_left e samples out r left count done tells =
    let v = encoder_view e in
    let told : frame_told v samples (length out) ≡ wrote count = sym done.told ∙ tells in
    let passed = frame_passed v samples (length out) count told in
    let bytes = frame_bytes v samples in
    let memory : left ≡ laid_over out 0 (good bytes) = rw (passed.quiet_rules, passed.narrow) at done.memory in
    record {
      accepted = record { room = length out; count = count; told = told };
      bytes = rw memory (over_front out bytes count (length_frame v samples ∙ passed.counted));
      next = rw told at done.back;
    }

-- ---- after an accepted one-shot call

shot_memory_lem : (rules : List Rule) (v : EncoderView) (samples : List ℤ) (out left : List ℕ) (count : ℕ) → Shot v samples → shot_told rules v samples ≡ wrote count
    → left ≡ shot_memory rules v samples out → take count left ≡ file_bytes v samples
unfolding shot_memory
shot_memory_lem rules v samples out left count s told e =
    let passed = shot_passed rules v samples count told in
    let bytes = file_bytes v samples in
    let memory : left ≡ laid_over out 0 (good bytes) = rw (passed.quiet_rules, passed.no_stop) at e in
    rw memory (over_front out bytes count (file_long v samples s.good.some_channels s.whole ∙ passed.counted))

pub shot_left : (e : QoaEncoder) (samples : List ℤ) (out : List ℕ) (r : Done (Result ℕ EncodeRefusal) QoaEncoder) (left : List ℕ) (count : ℕ)
    → ShotDone e samples out r left → told_encode r.answer ≡ wrote count → FileLeft (encoder_view e) samples count left
unfolding bytes_in start_in given_in
shot_left e samples out r left count done tells =
    let v = encoder_view e in
    let room = length out in
    let told : shot_told (shot_rules v samples room) v samples ≡ wrote count = sym done.told ∙ tells in
    record {
      file = one_shot v samples room count told;
      start = refl;
      given = refl;
      bytes = shot_memory_lem (shot_rules v samples room) v samples out left count (shot v samples room count told) told done.memory;
    }

pub start_left : (c rate total : ℕ) (samples : List ℤ) (out : List ℕ) (r : Result ℕ EncodeRefusal) (left : List ℕ) (count : ℕ)
    → AllDone c rate total samples out r left → told_encode r ≡ wrote count → FileLeft (new_view c rate total) samples count left
unfolding bytes_in start_in given_in
start_left c rate total samples out r left count done tells =
    let v = new_view c rate total in
    let room = length out in
    let rules = all_rules c rate total samples room in
    let told : shot_told rules v samples ≡ wrote count = sym done.told ∙ tells in
    record {
      file = from_start c rate total samples room count told;
      start = refl;
      given = refl;
      bytes = shot_memory_lem rules v samples out left count (shot_new c rate total samples room count told) told done.memory;
    }
