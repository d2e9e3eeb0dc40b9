-- Theorems 1 to 5, those of demand 3: what a clerk hears is what the converter heard. Read this file first: the statements are all that a visitor needs of it, next
-- to the definitions that they cite. `decode room bytes` is whole-file decoding into an output with room for so many samples: `good` and what is heard, or
-- a refusal by its number (file/specs/Whole). `IsCut k bytes` says that the grammar cuts the bytes into the parts k: a file header, one or more frames,
-- a tail (format/specs/Grammar). What is said of a file, as `HasCut`, stands in specs/Claims. A `Finished` file is one that the writer finishes
-- (specs/Finished). Theorem 6, that each public call has one answer, has a file of its own beside this one, Settled, with a theorem for each call.
-- Assumes nothing.
use Prim.Native.Nat.{ℕ, ◌≤◌}
use mathlib.Core.Path.{◌≡◌, ap, sym, ◌∙◌}
use mathlib.Core.List.{List, ◌∷◌}
use mathlib.Core.Logic.{◌↔◌}
use lib.IntN.{ℤ}
use lib.ListN.{length, take}
use Rattle.refusal.specs.Rules.{good}
use Rattle.format.specs.Format.{most_bytes}
use Rattle.format.specs.Grammar.{Cut, IsCut}
use Rattle.file.specs.Whole.{Audio, audio_of, decode}
use Rattle.file.specs.Walk.{samples_of}
use Rattle.file.proofs.Accepted.{one_cut}
use Rattle.file.proofs.Decoded.{accepted, accepts}
use Rattle.file.proofs.Needs.{file_need_lem}
use Rattle.encoder.specs.Encoder.{EncoderView, new_view, encoder_view}
use Rattle.encoder.specs.Head.{head_bytes}
use Rattle.oneshot.specs.Shots.{AllDone, ShotDone}
use Rattle.encoder.specs.Calls.{FrameDone, head_memory, head_told, told_encode, wrote}
use Rattle.std.specs.Prelude.{Result}
use Rattle.refusal.specs.declared.Done.{Done}
use Rattle.encoder.specs.declared.EncodeRefusal.{EncodeRefusal}
use Rattle.encoder.specs.declared.QoaEncoder.{QoaEncoder}
use Rattle.theorems.specs.Claims.{Accepts, HasCut, HasCutWithoutTail, RoomFor}
use Rattle.theorems.specs.Finished.{Finished, one_shot, from_start, in_pieces, bytes_in, given_in, reconstruction_in, start_in}
use Rattle.theorems.specs.Left.{FileLeft, FrameLeft}
use Rattle.theorems.proofs.Files.{as_many, reads_back, tailless}
use Rattle.theorems.proofs.OneShots.{shot_many, shot_reads_back, shot_tailless}
use Rattle.theorems.proofs.Taking.{all_taken, shot, shot_new}
use Rattle.theorems.proofs.Outputs.{frame_left, head_left, shot_left, start_left}

-- 1. Given room for its samples and at most 4294967295 bytes, a file is accepted exactly when there is a cut of it.
pub accepted_where_cut : (room : ℕ) (bytes : List ℕ) → length bytes ≤ most_bytes → RoomFor room bytes → Accepts room bytes ↔ HasCut bytes
accepted_where_cut room bytes few enough =
    let taken : HasCut bytes → Accepts room bytes =
    λ k. (audio_of k.0, accepts room bytes k.0 k.1 few (rw (file_need_lem k.0) (enough k.0 k.1))) in
    (λ a. let h = (accepted room bytes a.0 a.1).holds in (h.cut, h.is_cut), taken)

-- 2. Two cuts of the same bytes are equal.
pub cuts_equal : (bytes : List ℕ) (k l : Cut) → IsCut k bytes → IsCut l bytes → k ≡ l
cuts_equal bytes k l = one_cut bytes k l

-- 3. The accepted samples are those of the cut's frames in order, and channels and rate are the first frame's.
pub cut_heard : (room : ℕ) (bytes : List ℕ) (k : Cut) (a : Audio) → IsCut k bytes → decode room bytes ≡ good a
    → (a.samples ≡ samples_of (k.first ∷ k.others)) × (a ≡ audio_of k)
unfolding audio_of
cut_heard room bytes k a is e =
    let h = (accepted room bytes a e).holds in
    let same : a ≡ audio_of k = h.audio ∙ ap audio_of (sym (h.only k is)) in
    (ap (λ (x : Audio). x.samples) same, same)

-- 4. Every file that the writer finishes, of at most 4294967295 bytes, is accepted where there is room for as many samples as were given,
pub finished_accepted : (f : Finished) (room : ℕ) → length (bytes_in f) ≤ most_bytes → length (given_in f) ≤ room → Accepts room (bytes_in f)
unfolding bytes_in given_in
finished_accepted (one_shot v samples room count told) into few enough = (_, shot_reads_back v samples (shot v samples room count told) into few enough)
finished_accepted (from_start c rate total samples room count told) into few enough =
    (_, shot_reads_back (new_view c rate total) samples (shot_new c rate total samples room count told) into few enough)
finished_accepted (in_pieces total v first others all) into few enough = (_, reads_back total v first others (all_taken v (first ∷ others) all) into few enough)

-- and whatever its length it is in the grammar, and has no tail.
pub finished_in_grammar : (f : Finished) → HasCutWithoutTail (bytes_in f)
unfolding bytes_in
finished_in_grammar (one_shot v samples room count told) = shot_tailless v samples (shot v samples room count told)
finished_in_grammar (from_start c rate total samples room count told) = shot_tailless (new_view c rate total) samples (shot_new c rate total samples room count told)
finished_in_grammar (in_pieces total v first others all) = tailless total v first others (all_taken v (first ∷ others) all)

-- 5. And it reads sample for sample as the writer's reconstruction, which is defined from samples and starting state alone,
pub finished_heard : (f : Finished) (room : ℕ) → length (bytes_in f) ≤ most_bytes → length (given_in f) ≤ room
    → decode room (bytes_in f) ≡ good (record { channels = (start_in f).channels; rate = (start_in f).rate; samples = reconstruction_in f })
unfolding bytes_in given_in start_in reconstruction_in
finished_heard (one_shot v samples room count told) = shot_reads_back v samples (shot v samples room count told)
finished_heard (from_start c rate total samples room count told) = shot_reads_back (new_view c rate total) samples (shot_new c rate total samples room count told)
finished_heard (in_pieces total v first others all) = reads_back total v first others (all_taken v (first ∷ others) all)

-- and has as many samples as were given.
pub finished_many : (f : Finished) → length (reconstruction_in f) ≡ length (given_in f)
unfolding given_in reconstruction_in
finished_many (one_shot v samples room count told) = shot_many v samples (shot v samples room count told)
finished_many (from_start c rate total samples room count told) = shot_many (new_view c rate total) samples (shot_new c rate total samples room count told)
finished_many (in_pieces total v first others all) = as_many v (first ∷ others) (all_taken v (first ∷ others) all)

-- ---- The files of 4 and 5 are what the encoder's calls leave in the lent output, by their own contracts (encoder/specs/Calls).

-- An accepted one-shot call, on an encoder or from the start: up to the count that it tells, the output holds a finished file of what was given
-- (`FileLeft`, specs/Left).
pub one_shot_leaves : (e : QoaEncoder) (samples : List ℤ) (out : List ℕ) (r : Done (Result ℕ EncodeRefusal) QoaEncoder) (left : List ℕ) (count : ℕ)
    → ShotDone e samples out r left → told_encode r.answer ≡ wrote count → FileLeft (encoder_view e) samples count left
one_shot_leaves = shot_left

pub from_start_leaves : (c rate total : ℕ) (samples : List ℤ) (out : List ℕ) (r : Result ℕ EncodeRefusal) (left : List ℕ) (count : ℕ)
    → AllDone c rate total samples out r left → told_encode r ≡ wrote count → FileLeft (new_view c rate total) samples count left
from_start_leaves = start_left

-- An accepted call for a frame: the output holds the frame's bytes, and the state that it hands back is the one that the next frame of a file starts from
-- (`FrameLeft`, specs/Left).
pub frame_leaves : (e : QoaEncoder) (samples : List ℤ) (out : List ℕ) (r : Done (Result ℕ EncodeRefusal) QoaEncoder) (left : List ℕ) (count : ℕ)
    → FrameDone e samples out r left → told_encode r.answer ≡ wrote count → FrameLeft e samples count r.state left
frame_leaves = frame_left

-- An accepted call for the file header.
pub head_leaves : (v : EncoderView) (out : List ℕ) (count : ℕ) → head_told v (length out) ≡ wrote count → take count (head_memory v out) ≡ head_bytes v.total
head_leaves = head_left
