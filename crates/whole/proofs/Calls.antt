-- From the survey's answer to the call's: what was refused, and what decoding finds where nothing was. Assumes nothing.
use Prim.Native.Nat.{ℕ, ◌+◌, ◌≤◌, ◌<◌}
use mathlib.Core.Path.{◌≡◌, refl, sym, ap, ◌∙◌}
use mathlib.Core.Logic.{⊎_elim}
use mathlib.Core.List.{List, [], ◌∷◌}
use mathlib.Core.Option.{Option, none, some}
use native.Mathlib.Nat.{zero-add}
use native.Mathlib.Omega.{arith}
use lib.IntN.{ℤ}
use lib.ListN.{length, drop, length-append}
use lib.Seq.{drop_at}
use Rattle.refusal.specs.Rules.{Answer, first_of, good, refused, unless, ◌then◌}
use Rattle.refusal.proofs.Rules.{fires, good_same, never, none_fires, then_good, then_refused}
use Rattle.word.proofs.Tests.{tests}
use Rattle.format.specs.Grammar.{Each, IsFrame, joined}
use Rattle.format.proofs.Tails.{tail_short}
use Rattle.file.specs.Walk.{Walk, room_rules, samples_of, walk_of}
use Rattle.file.specs.Whole.{Audio, audio_in, audio_of, decode}
use Rattle.file.specs.Streaming.{fitting, free_frames, samples_in, streamed}
use Rattle.file.proofs.Decoded.{holds}
use Rattle.file.proofs.Streamed.{streamed_is}
use Rattle.whole.specs.Told.{count_in, summary_in, summary_of}
use Rattle.survey.specs.Parts.{fit_after, fits}
use Rattle.whole.specs.Parts.{HasRoom, held}
use Rattle.refusal.specs.declared.Summary.{Summary}
use Rattle.whole.proofs.Decoding.{joined_held}
use Rattle.file.specs.Parts.{IsFree}

-- a refusal of what is told of a value is one of the value
mapped_refused : {A B : Type 0} (f : A → B) (a : Answer A) (n : ℕ) → (a then λ x. good (f x)) ≡ refused n → a ≡ refused n
mapped_refused f a n e = ⊎_elim (λ same. same) (λ y. never (f y.0) n y.2) (then_refused a (λ x. good (f x)) n e)

-- ---- streaming frames

-- counting first and then asking for room is the same
count_unless : (o : Option ℕ) (xs : List ℤ) → count_in (unless o (good xs)) ≡ unless o (good (length xs))
count_unless none xs = refl
count_unless (some n) xs = refl

counted : (room : ℕ) (a : Answer Walk) → (a then λ w. fits room (0 + length (samples_of w.frames))) ≡ count_in (a then (λ w. good (samples_of w.frames)) then fitting room)
unfolding fits
counted room (refused n) = refl
counted room (good w) = rw zero-add (sym (count_unless (first_of (room_rules room (samples_of w.frames))) (samples_of w.frames)))

module _ (room : ℕ) (b : List ℕ) where
  pub frames_counted : fit_after free_frames room 0 b ≡ count_in (streamed room b)
  unfolding fit_after streamed samples_in
  frames_counted = counted room (walk_of free_frames b)

  pub frames_refused : (n : ℕ) → count_in (streamed room b) ≡ refused n → streamed room b ≡ refused n
  frames_refused n e = mapped_refused length (streamed room b) n e

  -- where it counts, there are samples, held and with room for them
  pub record Streams (n : ℕ) : Type 0 where
    pub samples : List ℤ
    pub answer : streamed room b ≡ good samples
    pub are_held : held b ≡ good samples
    pub enough : length samples ≤ room

  pub frames_good : (n : ℕ) → count_in (streamed room b) ≡ good n → Streams n
  frames_good n e =
      let found = then_good (streamed room b) (λ xs. good (length xs)) n e in
      let is = streamed_is room b found.0 found.1 in
      let all = joined_held is.frames [] is.split.frames (omega arith) in
      record {
        samples = found.0;
        answer = found.1;
        are_held = ap held (sym is.split.bytes) ∙ all ∙ ap {B = Answer (List ℤ)} good (sym is.samples);
        enough = is.enough_room;
      }

-- ---- a whole file

-- its samples are held after the file header
each_free : (c r : ℕ) (fs : List (List ℕ)) → Each (IsFrame c r) fs → Each IsFree fs
each_free c r [] is = tt
each_free c r (f ∷ fs) is = (record { passes = is.0.passes; whole = is.0.whole }, each_free c r fs is.1)

pub audio_held : (b : List ℕ) (a : Audio) → audio_in b ≡ good a → held (drop 8 b) ≡ good a.samples
unfolding audio_of
audio_held b a e =
    let h = holds b a e in
    let k = h.cut in
    let frames = k.first ∷ k.others in
    let after : drop 8 b ≡ joined frames k.tail = ap (drop 8) (sym h.is_cut.bytes) ∙ drop_at k.head (joined frames k.tail) 8 h.is_cut.head_whole in
    let short = tail_short (length k.tail) h.is_cut.tail_ok in
    rw after (joined_held frames k.tail (each_free _ _ frames h.is_cut.frames) short ∙ ap (λ (z : Audio). good z.samples) (sym h.audio))

module _ (room : ℕ) (b : List ℕ) where
  pub file_refused : (n : ℕ) → summary_in (audio_in b) ≡ refused n → decode room b ≡ refused n
  unfolding decode
  file_refused n e = rw (mapped_refused summary_of (audio_in b) n e)

  -- where there is a need, there is audio: without room for it the answer is 7
  pub record Needs (s : Summary) : Type 0 where
    pub audio : Audio
    pub found : audio_in b ≡ good audio
    pub same : summary_of audio ≡ s

  pub file_needs : (s : Summary) → summary_in (audio_in b) ≡ good s → Needs s
  file_needs s e =
      let a = then_good (audio_in b) (λ a. good (summary_of a)) s e in
      record { audio = a.0; found = a.1; same = good_same (summary_of a.0) s a.2 }

  module _ (s : Summary) (needs : Needs s) where
    need_is : length needs.audio.samples ≡ s.count
    need_is = ap (λ (z : Summary). z.count) needs.same

    pub no_room : room < s.count → decode room b ≡ refused 7
    unfolding decode
    no_room l = let need = need_is in rw (needs.found, fires 0 (room_rules room needs.audio.samples) 7 (omega (arith, tests)))

    pub enough_room : s.count ≤ room → decode room b ≡ good needs.audio
    unfolding decode
    enough_room l = let need = need_is in rw (needs.found, none_fires (room_rules room needs.audio.samples) (omega (arith, tests)))

    pub held_room : s.count ≤ room → HasRoom (held (drop 8 b)) room
    held_room l = let need = need_is in rw (audio_held b needs.audio needs.found) (omega arith)

    pub head_there : 8 ≤ length b
    head_there =
        let h = holds b needs.audio needs.found in
        let k = h.cut in
        omega (arith, length-append k.head (joined (k.first ∷ k.others) k.tail), ap length h.is_cut.bytes, h.is_cut.head_whole)
