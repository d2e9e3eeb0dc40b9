-- Every count is small enough for a code. Assumes nothing.
use Prim.Native.Nat.{ℕ, ◌*◌, ◌≤◌}
use mathlib.Core.Path.{◌≡◌, ap, ◌∙◌}
use mathlib.Core.List.{List, [], ◌∷◌}
use native.Mathlib.Omega.{arith}
use lib.ListN.{length, length-append}
use Rattle.refusal.specs.Rules.{good}
use Rattle.refusal.proofs.Rules.{good_same, then_good}
use Rattle.format.specs.Format.{most_bytes}
use Rattle.format.specs.Header.{header_at}
use Rattle.format.specs.Part.{length_of}
use Rattle.format.specs.Grammar.{Each, IsFrame, joined}
use Rattle.file.specs.Whole.{Audio, audio_in, decode}
use Rattle.file.specs.Streaming.{streamed}
use Rattle.file.proofs.Decoded.{accepted, holds}
use Rattle.file.proofs.Needs.{file_need_lem, need_small}
use Rattle.file.proofs.Streamed.{streamed_is}
use Rattle.whole.specs.Told.{count_in, summary_in, summary_of}
use Rattle.refusal.specs.declared.Summary.{Summary}

-- no more samples than there is room for
pub decoded_fits : (room : ℕ) (b : List ℕ) (s : Summary) → summary_in (decode room b) ≡ good s → s.count ≤ room
decoded_fits room b s e =
    let found = then_good (decode room b) (λ a. good (summary_of a)) s e in
    let same = ap (λ (z : Summary). z.count) (good_same (summary_of found.0) s found.2) in
    let room = (accepted room b found.0 found.1).enough_room in
    omega arith

pub streamed_fits : (room : ℕ) (b : List ℕ) (n : ℕ) → count_in (streamed room b) ≡ good n → n ≤ room
streamed_fits room b n e =
    let found = then_good (streamed room b) (λ xs. good (length xs)) n e in
    let same = good_same (length found.0) n found.2 in
    let room = (streamed_is room b found.0 found.1).enough_room in
    omega arith

-- at most three samples for each byte of a file
wholes : (c r : ℕ) (fs : List (List ℕ)) → Each (IsFrame c r) fs → Each (λ f. length f ≡ length_of (header_at f 0)) fs
wholes c r [] is = tt
wholes c r (f ∷ fs) is = (is.0.whole, wholes c r fs is.1)

pub need_fits : (b : List ℕ) (s : Summary) → summary_in (audio_in b) ≡ good s → s.count ≤ 3 * most_bytes
need_fits b s e =
    let found = then_good (audio_in b) (λ a. good (summary_of a)) s e in
    let same = ap (λ (z : Summary). z.count) (good_same (summary_of found.0) s found.2) in
    let h = holds b found.0 found.1 in
    let k = h.cut in
    let samples = ap (λ (a : Audio). length a.samples) h.audio ∙ file_need_lem k in
    let small = need_small (k.first ∷ k.others) k.tail (wholes _ _ (k.first ∷ k.others) h.is_cut.frames) in
    let bytes = ap length h.is_cut.bytes in
    omega (arith, length-append k.head (joined (k.first ∷ k.others) k.tail))
