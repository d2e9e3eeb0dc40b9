-- Slice groups read in a part of the bytes. Assumes nothing.
use mathlib.Core.Path.{◌≡◌, ◌∙◌}
use mathlib.Core.List.{List}
use Prim.Native.Nat.{ℕ, zero, suc, ◌+◌, ◌*◌, ◌/◌, ◌%◌, ◌≤◌, ◌<◌}
use native.Mathlib.Nat.{add_assoc, div-lt_iff_lt-mul, mod-lt, mul-zero, not-suc-le-zero}
use native.Mathlib.Omega.{arith}
use lib.Arith.{digits_lt}
use lib.ListN.{take, drop}
use Rattle.word.proofs.BytesLaws.{be_drop, be_take}
use Rattle.word.proofs.Writes.{written_ext}
use Rattle.lms.specs.declared.QoaLms.{QoaLms}
use Rattle.format.specs.Predictor.{lms_of}
use Rattle.groups.specs.Channel.{run_after}
use Rattle.groups.specs.Groups.{groups_at, word_at}
use Rattle.groups.proofs.Runs.{channel_ext, run_ext}
use Rattle.groups.specs.Parts.{groups_states}

-- a product above a number has no factor 0
factor_pos : (a c k : ℕ) → k < a * c → 0 < c
factor_pos a zero k h = absurd (not-suc-le-zero (rw mul-zero at h))
factor_pos a (suc c) k h = omega arith

-- ---- the same words make the same predictors and samples

module _ (bs cs : List ℕ) (p q c : ℕ) (states : List QoaLms) (g : ℕ) (same : (j i : ℕ) → j < c → i < g → word_at bs p c j i ≡ word_at cs q c j i) where
  pub states_ext : groups_states bs p c states g ≡ groups_states cs q c states g
  unfolding groups_states
  states_ext =
      written_ext (λ j. run_after (word_at bs p c j) (lms_of states j) g) states 0 1 (λ j. run_after (word_at cs q c j) (lms_of states j) g) c
      (λ j h. run_ext (word_at bs p c j) (lms_of states j) (word_at cs q c j) g (λ i l. same j i h l))

  pub samples_ext : (k : ℕ) → k < 20 * g * c → groups_at bs p c states k ≡ groups_at cs q c states k
  unfolding groups_at
  samples_ext k h =
      let some : 0 < c = factor_pos (20 * g) c k h in
      channel_ext (word_at bs p c (k % c)) (lms_of states (k % c)) (word_at cs q c (k % c)) g (k / c) ((div-lt_iff_lt-mul some).1 h)
      (λ i l. same (k % c) i (mod-lt k some) l)

-- ---- what lies past the first k bytes

module _ (k : ℕ) (bs : List ℕ) (p c : ℕ) where
  pub word_drop : (j i : ℕ) → word_at (drop k bs) p c j i ≡ word_at bs (k + p) c j i
  word_drop j i = be_drop 8 k bs (p + 8 * (i * c + j)) ∙ rw add_assoc

  pub states_drop : (states : List QoaLms) (g : ℕ) → groups_states (drop k bs) p c states g ≡ groups_states bs (k + p) c states g
  states_drop states g = states_ext (drop k bs) bs p (k + p) c states g (λ j i h l. word_drop j i)

  pub samples_drop : (states : List QoaLms) (i : ℕ) → groups_at (drop k bs) p c states i ≡ groups_at bs (k + p) c states i
  unfolding groups_at
  samples_drop states i =
      channel_ext (word_at (drop k bs) p c (i % c)) (lms_of states (i % c)) (word_at bs (k + p) c (i % c)) (i / c / 20 + 1) (i / c) (omega arith)
      (λ m l. word_drop (i % c) m)

-- ---- the first k bytes, where all words lie within them

-- the place of a word
pub word_room : (p c j i g : ℕ) → j < c → i < g → p + 8 * (i * c + j) + 8 ≤ p + 8 * (c * g)
word_room p c j i g h l =
    let below : i * c + j < g * c = digits_lt l h in
    omega arith

module _ (k : ℕ) (bs : List ℕ) (p c g : ℕ) (room : p + 8 * (c * g) ≤ k) where
  pub word_take : (j i : ℕ) → j < c → i < g → word_at (take k bs) p c j i ≡ word_at bs p c j i
  word_take j i h l = be_take 8 k bs (p + 8 * (i * c + j)) (omega (arith, word_room p c j i g h l))

  pub states_take : (states : List QoaLms) → groups_states (take k bs) p c states g ≡ groups_states bs p c states g
  states_take states = states_ext (take k bs) bs p p c states g word_take

  pub samples_take : (states : List QoaLms) (i : ℕ) → i < 20 * g * c → groups_at (take k bs) p c states i ≡ groups_at bs p c states i
  samples_take states i h = samples_ext (take k bs) bs p p c states g word_take i h
