-- How many samples: n for each channel of a frame, so that the need of a file is told by its headers. Assumes nothing.
use Prim.Native.Nat.{ℕ, ◌*◌, ◌≤◌}
use mathlib.Core.Path.{◌≡◌, refl}
use mathlib.Core.List.{List, [], ◌∷◌, flat_map}
use native.Mathlib.Nat.{mul-le-mul_right}
use native.Mathlib.Omega.{arith}
use lib.ListN.{length, length-append}
use Rattle.word.proofs.Tables.{length_table}
use Rattle.format.specs.Format.{frame_length, slices_of}
use Rattle.format.specs.Header.{header_at}
use Rattle.format.specs.Part.{length_of}
use Rattle.format.specs.Grammar.{Cut, Each, joined}
use Rattle.format.specs.declared.frame.FrameHeader.{FrameHeader}
use Rattle.file.specs.Frame.{count_of, frame_samples}
use Rattle.file.specs.Walk.{counts_of, samples_of}
use Rattle.file.specs.Whole.{audio_of}

pub frame_need : (f : List ℕ) → length (frame_samples f) ≡ count_of (header_at f 0)
unfolding frame_samples
frame_need f = length_table (count_of (header_at f 0)) _

pub frames_need : (fs : List (List ℕ)) → length (samples_of fs) ≡ counts_of fs
unfolding flat_map
frames_need [] = refl
frames_need (f ∷ fs) = omega (arith, length-append (frame_samples f) (samples_of fs), frame_need f, frames_need fs)

pub file_need_lem : (k : Cut) → length (audio_of k).samples ≡ counts_of (k.first ∷ k.others)
unfolding audio_of
file_need_lem k = frames_need (k.first ∷ k.others)

-- a frame has at most three samples for each of its bytes,
pub count_small : (h : FrameHeader) → count_of h ≤ 3 * length_of h
unfolding frame_length slices_of
count_small h =
    let groups : h.samples ≤ 20 * slices_of h.samples = omega arith in
    omega (arith, mul-le-mul_right h.channels groups)

-- and so have frames that are whole
pub need_small : (fs : List (List ℕ)) (tail : List ℕ) → Each (λ f. length f ≡ length_of (header_at f 0)) fs → counts_of fs ≤ 3 * length (joined fs tail)
need_small [] tail whole = omega arith
need_small (f ∷ fs) tail whole =
    omega (arith, length-append f (joined fs tail), count_small (header_at f 0), need_small fs tail whole.1, whole.0)
