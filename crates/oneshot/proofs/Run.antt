-- FORMAT.md's example file: one mono sample 0 at 44100 Hz is these 40 bytes. Assumes nothing.
use mathlib.Core.Path.{◌≡◌, refl}
use mathlib.Core.List.{[], ◌∷◌}
use lib.IntN.{pos}
use Rattle.encoder.specs.Calls.{wrote}
use Rattle.encoder.specs.Encoder.{create_rules, good_encoder, new_view}
use Rattle.body.specs.Laid.{laid}
use Rattle.encoder.specs.Frame.{after_frame, first_wide, frame_bytes}
use Rattle.body.specs.Channel.{lms_before, slice_part, slice_word}
use Rattle.encoder.specs.Head.{head_bytes}
use Rattle.word.specs.Bytes.{byte_of, bytes_of}
use Rattle.word.specs.Word.{filled}
use Rattle.word.specs.Table.{table}
use Rattle.wrap.specs.Wrap.{modulo}
use Rattle.lms.specs.Predictor.{above, clamp16, cost_of, dot, new_lms, next_weight, penalty_of, predicted, stepped, updated, all_short, history_rule}
use Rattle.scale.specs.Tables.{factor_of, factors, reciprocal_of, row_for, row_of}
use Rattle.scale.specs.Division.{code_for, codes, divided_by, place_of, shifted, sign_of}
use Rattle.trial.specs.Trial.{code_tried, sum_tried, tried, value_tried}
use Rattle.search.specs.Candidate.{best_with, beats, candidate, exceeds, run_from, start_of, step_of, verdict}
use Rattle.search.specs.Search.{best_after, chosen, dearer, encoded_slice, first_cost, insert, leader_of, ordered, searched, strided, trace_from, trace_of, unheard}
use Rattle.format.specs.Format.{frame_length, slices_of, state_end}
use Rattle.format.specs.Header.{header_word}
use Rattle.format.specs.Predictor.{four_word}
use Rattle.word.specs.Below.{below}
use Rattle.refusal.specs.Rules.{first_of}
use Rattle.oneshot.specs.OneShot.{state_before, bytes_before, chunk, file_bytes, frames_in, need_of, shot_rules, stop_in}
use Rattle.oneshot.specs.Shots.{all_rules, shot_told}

pub run : file_bytes (new_view 1 44100 1) (pos 0 ∷ []) ≡
    0x71 ∷ 0x6f ∷ 0x61 ∷ 0x66 ∷ 0 ∷ 0 ∷ 0 ∷ 1 ∷ 1 ∷ 0 ∷ 0xac ∷ 0x44 ∷ 0 ∷ 1 ∷ 0 ∷ 0x20
    ∷ 0 ∷ 0 ∷ 0 ∷ 0 ∷ 0 ∷ 0 ∷ 0 ∷ 0
    ∷ 0 ∷ 0 ∷ 0 ∷ 0 ∷ 0xe0 ∷ 0 ∷ 0x40 ∷ 0
    ∷ 0 ∷ 0 ∷ 0 ∷ 0 ∷ 0 ∷ 0 ∷ 0 ∷ 0 ∷ []
unfolding new_view after_frame frame_bytes laid lms_before slice_part slice_word head_bytes byte_of bytes_of filled table modulo above clamp16 cost_of dot new_lms next_weight penalty_of predicted stepped updated factor_of factors reciprocal_of row_for row_of code_for codes divided_by place_of shifted sign_of code_tried sum_tried tried value_tried best_with beats candidate exceeds run_from start_of step_of verdict best_after chosen dearer encoded_slice first_cost insert leader_of ordered searched strided trace_from trace_of unheard frame_length slices_of state_end header_word four_word state_before bytes_before chunk frames_in
run = refl

-- and the call says so, where the caller lends 40 bytes
pub run_told : shot_told (all_rules 1 44100 1 (pos 0 ∷ []) 40) (new_view 1 44100 1) (pos 0 ∷ []) ≡ wrote 40
unfolding shot_told create_rules shot_rules new_view good_encoder below history_rule stop_in first_wide all_short first_of need_of table new_lms state_before frames_in state_end slices_of
run_told = refl
