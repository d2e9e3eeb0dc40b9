-- FORMAT.md's example file, computed from the definitions: one mono sample 0 at 44100 Hz, written and read. Assumes nothing.
use mathlib.Core.Path.{◌≡◌, refl}
use mathlib.Core.List.{[], ◌∷◌}
use lib.IntN.{pos}
use Rattle.word.specs.Bytes.{byte_of, bytes_of}
use Rattle.refusal.specs.Rules.{first_of}
use Rattle.word.specs.Word.{filled}
use Rattle.word.specs.Table.{table}
use Rattle.wrap.specs.Wrap.{modulo}
use Rattle.lms.specs.Predictor.{above, clamp16, cost_of, dot, new_lms, next_weight, penalty_of, predicted, stepped, updated, all_short, history_rule}
use Rattle.scale.specs.Division.{code_for, codes, divided_by, place_of, shifted, sign_of}
use Rattle.scale.specs.Tables.{factor_of, factors, reciprocal_of, row_for, row_of}
use Rattle.trial.specs.Trial.{code_tried, sum_tried, tried, value_tried}
use Rattle.format.specs.Format.{frame_length, slices_of, state_end}
use Rattle.format.specs.Header.{header_word}
use Rattle.format.specs.Predictor.{four_word}
use Rattle.word.specs.Below.{below}
use Rattle.search.specs.Candidate.{best_with, beats, candidate, exceeds, run_from, start_of, step_of, verdict}
use Rattle.search.specs.Search.{best_after, chosen, dearer, encoded_slice, first_cost, insert, leader_of, ordered, searched, strided, trace_from, trace_of, unheard}
use Rattle.search.specs.Reconstruction.{reconstructed, sums_tried}
use Rattle.file.proofs.Examples.{one_sample}
use Rattle.body.specs.Channel.{lms_before, slice_part, slice_word, sum_at}
use Rattle.encoder.specs.Encoder.{create_rules, good_encoder, new_view}
use Rattle.body.specs.Laid.{laid}
use Rattle.encoder.specs.Frame.{first_wide, frame_bytes, frame_sums}
use Rattle.oneshot.specs.OneShot.{state_before, bytes_before, chunk, frames_in, need_of, shot_rules, stop_in, sums_before}
use Rattle.encoder.specs.Head.{head_bytes}
use Rattle.oneshot.specs.Shots.{shot_told}
use Rattle.theorems.specs.Finished.{Finished, from_start, bytes_in, reconstruction_in}

pub run : Finished
unfolding shot_told first_of create_rules shot_rules new_view good_encoder below history_rule table new_lms need_of frames_in state_end slices_of stop_in first_wide state_before all_short
run = from_start 1 44100 1 (pos 0 ∷ []) 40 40 refl

-- its bytes
pub run_bytes : bytes_in run ≡ one_sample
unfolding run bytes_in bytes_before head_bytes bytes_of byte_of frame_bytes header_word laid chunk four_word frame_length modulo slice_word slice_part lms_before strided encoded_slice filled chosen leader_of searched best_after trace_of trace_from ordered insert dearer first_cost tried code_tried code_for codes place_of divided_by shifted sign_of reciprocal_of factor_of factors value_tried row_of row_for sum_tried clamp16 predicted dot cost_of penalty_of above updated next_weight stepped candidate start_of step_of run_from verdict exceeds beats best_with unheard
run_bytes = refl

-- it reads as sample 1
pub run_heard : reconstruction_in run ≡ pos 1 ∷ []
unfolding run reconstruction_in sums_before frame_sums sum_at reconstructed sums_tried chunk modulo slice_part lms_before strided chosen leader_of searched best_after trace_of trace_from ordered insert dearer first_cost tried code_tried code_for codes place_of divided_by shifted sign_of reciprocal_of factor_of factors value_tried row_of row_for sum_tried clamp16 predicted dot cost_of penalty_of above updated next_weight stepped candidate start_of step_of run_from verdict exceeds beats best_with unheard
run_heard = refl
