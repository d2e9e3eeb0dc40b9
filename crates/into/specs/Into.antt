-- Decoding into a buffer: pending samples, then slice groups until the buffer is full or the frame is done. Assumes nothing.
use Rattle.std.specs.Prelude.{ℕ, ◌+◌, ◌-◌, ◌*◌, ◌/◌, min, ◌≡◌, not, cond, List, [], ◌∷◌, eqb, ltb, ℤ, pos, get_or, length, Result}
use Rattle.format.specs.Format.{slice_len}
use Rattle.refusal.specs.Rules.{good, Rule, ◌gives◌, after, first_of}
use Rattle.refusal.specs.Lent.{laid_over}
use Rattle.word.specs.Table.{table}
use Rattle.lms.specs.declared.QoaLms.{QoaLms}
use Rattle.refusal.specs.Refusals.{told}
use Rattle.refusal.specs.declared.Done.{Done}
use Rattle.refusal.specs.declared.Refusal.{Refusal}
use Rattle.format.specs.Predictor.{lms_of}
use Rattle.groups.specs.Channel.{run_after}
use Rattle.groups.specs.Groups.{groups_at, word_at}
use Rattle.state.specs.View.{Pending, View, channels_of, moved_to, total, view, waiting}
use Rattle.state.specs.States.{good_state}
use Rattle.state.specs.declared.QoaDecoder.{QoaDecoder}
use Rattle.into.specs.Left.{Leaves}

-- ---- slice groups

-- how many groups give so many samples, all channels together: ceil(m / 20c)
unfoldable pub groups_for : ℕ → ℕ → ℕ
groups_for c m = (m + (slice_len * c - 1)) / (slice_len * c)

-- where the groups that start at the place end
abbrev pub groups_end : View → ℕ → ℕ
groups_end v q = v.at + 8 * (q * channels_of v)

-- the samples per channel that q groups give
abbrev pub groups_samples : View → ℕ → ℕ
groups_samples v q = min (slice_len * q) v.remaining

-- the predictors after q groups
unfoldable pub groups_lms : List ℕ → View → ℕ → List QoaLms
groups_lms bs v q = table (channels_of v) (λ j. run_after (word_at bs v.at (channels_of v) j) (lms_of v.lms j) q)

-- the range of pending samples, 0 and 0 where none is left
abbrev pub range_next : ℕ → ℕ → ℕ
range_next next end = cond (ltb next end) next 0

abbrev pub range_end : ℕ → ℕ → ℕ
range_end next end = cond (ltb next end) end 0

-- ---- the samples, and the state after some of them

-- the k-th sample to come: the pending ones, then those of the groups from the place on
unfoldable pub coming_at : List ℕ → View → ℕ → ℤ
coming_at bs v k = cond (ltb k (waiting v)) (get_or v.pending k (pos 0)) (groups_at bs v.at (channels_of v) v.lms (k - waiting v))

-- the groups that k samples need, beyond the pending ones
abbrev pub groups_needed : View → ℕ → ℕ
groups_needed v k = groups_for (channels_of v) (k - waiting v)

-- what stands before the last of those groups, of all samples to come
abbrev pub before_last : View → ℕ → ℕ
before_last v q = waiting v + slice_len * (q - 1) * channels_of v

-- the range after k samples: within the pending ones, or within the last group that was decoded
abbrev pub pending_from : View → ℕ → ℕ → ℕ
pending_from v q k = cond (eqb q 0) (v.next + k) (k - before_last v q)

abbrev pub pending_to : View → ℕ → ℕ
pending_to v q = cond (eqb q 0) v.end (waiting v + groups_samples v q * channels_of v - before_last v q)

-- what is pending then
abbrev pub pending_after : List ℕ → View → ℕ → ℕ → Pending
pending_after bs v q k = record {
  next = range_next (pending_from v q k) (pending_to v q);
  end = range_end (pending_from v q k) (pending_to v q);
  samples = table (pending_to v q - pending_from v q k) (λ i. coming_at bs v (k + i));
}

-- the state after k samples, for which q groups were decoded
unfoldable pub taken_from : List ℕ → View → ℕ → ℕ → View
taken_from bs v q k = moved_to v v.frame (groups_end v q) (v.remaining - groups_samples v q) (pending_after bs v q k) (groups_lms bs v q)

-- ---- the call, with a buffer of so much room

abbrev pub into_count : View → ℕ → ℕ
into_count v room = min room (total v)

abbrev pub into_groups : View → ℕ → ℕ
into_groups v room = groups_needed v (into_count v room)

-- 8 first; 5 where a slice that the call needs is cut
unfoldable pub into_rules : List ℕ → View → ℕ → List Rule
into_rules bs v room =
    (not (good_state v (length bs)) gives 8)
    ∷ (ltb (length bs) (groups_end v (into_groups v room)) gives 5)
    ∷ []

-- the state that the call leaves
abbrev pub into_after : List ℕ → View → ℕ → View
into_after bs v room = taken_from bs v (into_groups v room) (into_count v room)

-- what the call promises, of the bytes, the state and the lent memory: its answer, its state, and that memory afterwards
pub record IntoDone (bs : List ℕ) (d : QoaDecoder) (out : List ℤ) (r : Done (Result ℕ Refusal) QoaDecoder) (out' : List ℤ) : Type 0 where
  pub told : told r.answer ≡ after (into_rules bs (view d) (length out)) (good (into_count (view d) (length out)))
  pub left : Leaves (first_of (into_rules bs (view d) (length out))) d (into_after bs (view d) (length out)) r.state
  pub stored : out' ≡ laid_over out 0 (after (into_rules bs (view d) (length out)) (good (table (into_count (view d) (length out)) (coming_at bs (view d)))))
