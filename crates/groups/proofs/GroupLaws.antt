-- Laws of slice groups: the predictors by channel, the samples in a row, and that decoding in two calls is decoding in one. Assumes nothing.
use mathlib.Core.Path.{◌≡◌, ap₂, sym, ◌∙◌}
use mathlib.Core.List.{List}
use mathlib.Core.Logic.{dite}
use Prim.Native.Nat.{ℕ, zero, suc, ◌+◌, ◌*◌, ◌/◌, ◌%◌, ◌≤◌, ◌<◌}
use native.Mathlib.Decide.{dec_lt}
use native.Mathlib.Nat.{mod-lt, mul-add-div_right, mul-add-mod_self_right, mul-one, mul-zero, zero-add}
use native.Mathlib.Omega.{arith}
use lib.IntN.{ℤ}
use lib.ListN.{length, get_or-eq_default}
use lib.Seq.{ext_get_or}
use Rattle.word.specs.Bytes.{be64}
use Rattle.groups.specs.Parts.{groups_states}
use Rattle.word.proofs.Writes.{interleaved_flat, length_written, written_at, written_other}
use Rattle.lms.specs.declared.QoaLms.{QoaLms}
use Rattle.format.specs.Predictor.{lms_of, no_lms}
use Rattle.groups.specs.Channel.{channel_at, run_after}
use Rattle.groups.specs.Groups.{groups_at, word_at}
use Rattle.groups.proofs.Runs.{channel_shift, run_more}
use Rattle.word.specs.Parts.{interleaved, written}

-- ---- the predictors, by channel

module _ (bs : List ℕ) (p c : ℕ) (states : List QoaLms) (g : ℕ) where
  pub length_groups : length (groups_states bs p c states g) ≡ length states
  unfolding groups_states
  length_groups = length_written (λ j. run_after (word_at bs p c j) (lms_of states j) g) states 0 1 c

  -- that of a used channel has run over its slices
  pub groups_lms_lem : (j : ℕ) → j < c → j < length states → lms_of (groups_states bs p c states g) j ≡ run_after (word_at bs p c j) (lms_of states j) g
  unfolding groups_states
  groups_lms_lem j h room =
      rw (zero-add, mul-one) at (written_at (λ j. run_after (word_at bs p c j) (lms_of states j) g) states 0 1 c j no_lms (omega arith) h (omega (arith, mul-one j)))

  -- any other is as it was
  pub groups_other : (j : ℕ) → c ≤ j → lms_of (groups_states bs p c states g) j ≡ lms_of states j
  unfolding groups_states
  groups_other j h = written_other (λ j. run_after (word_at bs p c j) (lms_of states j) g) states 0 1 c j no_lms (λ i l e. omega (arith, mul-one i))

  -- what holds of a predictor after its slices, and of none at all, holds of every used channel's
  pub groups_each : (P : QoaLms → Type 0) → P no_lms → ((j : ℕ) → j < c → P (run_after (word_at bs p c j) (lms_of states j) g))
      → (j : ℕ) → j < c → P (lms_of (groups_states bs p c states g) j)
  groups_each P none run j h =
      dite (dec_lt j (length states))
      (λ inside. rw (groups_lms_lem j h inside) (run j h))
      (λ past. rw (get_or-eq_default (groups_states bs p c states g) no_lms {n = j} (rw length_groups (omega arith))) none)

-- ---- the samples

-- each channel's stores, interleaved, are the groups' samples in a row, also where there is no channel
pub groups_flat : (bs : List ℕ) (p c : ℕ) (states : List QoaLms) (out : List ℤ) (start n : ℕ) → start + n * c ≤ length out
    → interleaved (λ j. channel_at (word_at bs p c j) (lms_of states j)) out start c n c ≡ written (groups_at bs p c states) out start 1 (n * c)
unfolding groups_at interleaved written
groups_flat bs p zero states out start n room = rw mul-zero
groups_flat bs p (suc c) states out start n room = interleaved_flat (λ j. channel_at (word_at bs p (suc c) j) (lms_of states j)) out start (suc c) n (omega arith) room

-- the words of channel j, whose first slice is at p + 8 j
pub words_at : (bs : List ℕ) (p c j : ℕ) → ◌≡◌ {A = ℕ → ℕ} (λ g. be64 bs (p + 8 * j + 8 * (g * c))) (word_at bs p c j)
words_at bs p c j = λ t g. be64 bs (place g t)
  where
    place : (g : ℕ) → p + 8 * j + 8 * (g * c) ≡ p + 8 * (g * c + j)
    place g = omega arith

-- ---- in two calls

-- the words from slice g on
pub words_from : (bs : List ℕ) (p c j g : ℕ) → ◌≡◌ {A = ℕ → ℕ} (λ i. word_at bs p c j (g + i)) (word_at bs (p + 8 * (g * c)) c j)
words_from bs p c j g = λ t i. be64 bs (place i t)
  where
    place : (i : ℕ) → p + 8 * ((g + i) * c + j) ≡ p + 8 * (g * c) + 8 * (i * c + j)
    place i = omega arith

module _ (bs : List ℕ) (p c : ℕ) (states : List QoaLms) (g : ℕ) where
  pub groups_more : (h : ℕ) → groups_states bs p c states (g + h) ≡ groups_states bs (p + 8 * (g * c)) c (groups_states bs p c states g) h
  groups_more h =
      let first : List QoaLms = groups_states bs p c states g in
      let then : ℕ = p + 8 * (g * c) in
      ext_get_or no_lms (groups_states bs p c states (g + h)) (groups_states bs then c first h)
      (length_groups bs p c states (g + h) ∙ sym (length_groups bs then c first h ∙ length_groups bs p c states g))
      (λ j room.
      let inside : j < length states = rw length_groups at room in
      dite (dec_lt j c)
      (λ used.
      groups_lms_lem bs p c states (g + h) j used inside
      ∙ run_more (word_at bs p c j) (lms_of states j) g h
      ∙ ap₂ (λ (w : ℕ → ℕ) (s : QoaLms). run_after w s h) (words_from bs p c j g) (sym (groups_lms_lem bs p c states g j used inside))
      ∙ sym (groups_lms_lem bs then c first h j used (rw length_groups inside)))
      (λ past.
      groups_other bs p c states (g + h) j (omega arith)
      ∙ sym (groups_other bs p c states g j (omega arith))
      ∙ sym (groups_other bs then c first h j (omega arith))))

  pub groups_shift : (k : ℕ) → 0 < c → c ≤ length states
      → groups_at bs p c states (20 * g * c + k) ≡ groups_at bs (p + 8 * (g * c)) c (groups_states bs p c states g) k
  unfolding groups_at
  groups_shift k some room =
      let channel : (20 * g * c + k) % c ≡ k % c = mul-add-mod_self_right (20 * g) c k in
      let place : (20 * g * c + k) / c ≡ 20 * g + k / c = mul-add-div_right some (20 * g) k in
      let j : ℕ = k % c in
      let used : j < c = mod-lt k some in
      rw (channel, place)
      (channel_shift (word_at bs p c j) (lms_of states j) g (k / c)
      ∙ ap₂ (λ (w : ℕ → ℕ) (s : QoaLms). channel_at w s (k / c)) (words_from bs p c j g) (sym (groups_lms_lem bs p c states g j used (omega arith))))
