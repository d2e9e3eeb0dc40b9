-- Worked examples of FORMAT.md, and orders of refusals, computed from the definitions. Assumes nothing.
use Prim.Native.Nat.{ℕ}
use mathlib.Core.Path.{◌≡◌, refl}
use mathlib.Core.Bool.{true}
use mathlib.Core.List.{List, [], ◌∷◌, ◌++◌, flat_map}
use lib.Ieee.Bits.{is_true}
use lib.IntN.{pos}
use lib.ListN.{drop, replicate}
use Rattle.word.specs.Bytes.{be}
use Rattle.refusal.specs.Rules.{first_of, good, refused}
use Rattle.word.specs.Table.{table}
use Rattle.wrap.specs.Wrap.{modulo}
use Rattle.lms.specs.Predictor.{clamp16, dot, predicted}
use Rattle.scale.specs.Tables.{factor_of, factors, row_for, row_of}
use Rattle.trial.specs.Trial.{heard, sample_of}
use Rattle.format.specs.Format.{frame_length, slices_of, state_end}
use Rattle.format.specs.FileHeader.{file_rules}
use Rattle.format.specs.Header.{header_at, header_rules, size_slices}
use Rattle.format.specs.Predictor.{lms_at}
use Rattle.format.specs.Checks.{frame_rules}
use Rattle.format.specs.Grammar.{tail_ok}
use Rattle.format.proofs.Tails.{tail_none, tail_seven}
use Rattle.slice.specs.Slice.{sample_at, state_after}
use Rattle.groups.specs.Channel.{channel_at, run_after}
use Rattle.groups.specs.Groups.{groups_at}
use Rattle.file.specs.Frame.{frame_samples, frame_states}
use Rattle.file.specs.Walk.{walk_by, walk_of}
use Rattle.file.specs.Whole.{audio_in, audio_of, body_for, cut_of, decode}
use Rattle.file.specs.Streaming.{samples_in, streamed}

-- one mono sample 0 at 44100 Hz
abbrev pub one_sample : List ℕ
one_sample =
    0x71 ∷ 0x6f ∷ 0x61 ∷ 0x66 ∷ 0 ∷ 0 ∷ 0 ∷ 1 ∷ 1 ∷ 0 ∷ 0xac ∷ 0x44 ∷ 0 ∷ 1 ∷ 0 ∷ 0x20 ∷ []
    ++ replicate 8 0
    ++ (0 ∷ 0 ∷ 0 ∷ 0 ∷ 0xe0 ∷ 0 ∷ 0x40 ∷ 0 ∷ [])
    ++ replicate 8 0

-- it reads as sample 1, with a tail of 7 bytes too, and no room is 7
pub one_sample_lem : (decode 1 one_sample ≡ good (record { channels = 1; rate = 44100; samples = pos 1 ∷ [] }))
    × (decode 1 (one_sample ++ replicate 7 1) ≡ good (record { channels = 1; rate = 44100; samples = pos 1 ∷ [] }))
    × (decode 0 one_sample ≡ refused 7)
unfolding decode audio_in first_of cut_of body_for walk_of walk_by file_rules frame_rules header_rules header_at frame_length slices_of state_end size_slices be audio_of flat_map frame_samples frame_states table lms_at groups_at channel_at run_after sample_at state_after heard sample_of predicted dot modulo clamp16 row_of row_for factor_of factors
one_sample_lem =
    let none_left : tail_ok 0 true ≡ true = is_true (tail_ok 0 true) tail_none in
    let seven-left : tail_ok 7 true ≡ true = is_true (tail_ok 7 true) tail_seven in
    (rw none_left, rw seven-left, rw none_left)

-- its frame, as a run of streaming frames; no bytes give no samples; a byte left over is 5
pub one_frame : (streamed 1 (drop 8 one_sample) ≡ good (pos 1 ∷ [])) × (streamed 0 [] ≡ good []) × (streamed 1 (drop 8 one_sample ++ (0 ∷ [])) ≡ refused 5)
unfolding streamed samples_in first_of walk_of walk_by frame_rules header_rules header_at frame_length slices_of state_end size_slices be flat_map frame_samples frame_states table lms_at groups_at channel_at run_after sample_at state_after heard sample_of predicted dot modulo clamp16 row_of row_for factor_of factors
one_frame = (refl, refl, refl)

-- a frame without samples, and the header of one at another rate whose state is cut: 4 in fixed mode, 5 in streaming mode
abbrev pub other_rate : ℕ → List ℕ
other_rate total =
    0x71 ∷ 0x6f ∷ 0x61 ∷ 0x66 ∷ 0 ∷ 0 ∷ 0 ∷ total ∷ 1 ∷ 0 ∷ 0 ∷ 1 ∷ 0 ∷ 0 ∷ 0 ∷ 0x20 ∷ []
    ++ replicate 16 0
    ++ (1 ∷ 0 ∷ 0 ∷ 2 ∷ 0 ∷ 0 ∷ 0 ∷ 0x20 ∷ [])

pub order_by_mode : (decode 0 (other_rate 1) ≡ refused 4) × (decode 0 (other_rate 0) ≡ refused 5)
unfolding decode audio_in first_of cut_of body_for walk_of walk_by file_rules frame_rules header_rules header_at frame_length slices_of state_end size_slices be
order_by_mode = (refl, refl)
