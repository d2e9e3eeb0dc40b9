-- Laws of a channel's slices: the samples of each, and the predictor before each. Assumes nothing.
use Prim.Native.Nat.{ℕ, zero, suc, ◌+◌, ◌*◌, ◌-◌, ◌≤◌, ◌<◌, min}
use mathlib.Core.Path.{◌≡◌, ap, sym, ◌∙◌}
use mathlib.Core.List.{List}
use native.Mathlib.Nat.{mul-le-mul_left, mul-le-mul_right}
use native.Mathlib.Omega.{arith}
use lib.IntN.{ℤ, pos}
use lib.ListN.{length, drop, length-drop, length-take}
use lib.Seq.{get_or-drop, get_or-take}
use Rattle.word.proofs.Tables.{get_or_table}
use Rattle.lms.specs.Predictor.{at}
use Rattle.lms.specs.declared.QoaLms.{QoaLms}
use Rattle.lms.proofs.Bounds.{within_more}
use Rattle.search.specs.Search.{encoded_slice, strided}
use Rattle.search.specs.declared.Encoded.{Encoded}
use Rattle.search.proofs.Fitting.{strided_length}
use Rattle.search.proofs.Lists.{whole_table}
use Rattle.search.proofs.Slices.{encoded_fits, encoded_lms, encoded_within}
use Rattle.body.specs.Channel.{lms_before, slice_part, slice_word}
use Rattle.lms.specs.Parts.{HistoryFits, WeightsWithin}

-- ---- the samples

pub length_part : (xs : List ℤ) (g : ℕ) → length (slice_part xs g) ≡ min 20 (length xs - 20 * g)
unfolding slice_part
length_part xs g = rw (length-take, length-drop)

-- a slice's samples lie in the frame's as the channel's do
pub part_strided : (n : ℕ) (samples : List ℤ) (j c g : ℕ)
    → strided (min 20 (n - 20 * g)) samples (20 * g * c + j) c ≡ slice_part (strided n samples j c) g
unfolding slice_part strided
part_strided n samples j c g =
    let xs = strided n samples j c in
    let long : length (slice_part xs g) ≡ min 20 (n - 20 * g) = length_part xs g ∙ ap (λ (k : ℕ). min 20 (k - 20 * g)) (strided_length n samples j c) in
    sym (whole_table (λ i. at samples (20 * g * c + j + i * c)) (slice_part xs g) (pos 0) (min 20 (n - 20 * g))
    (λ i h.
    get_or-take 20 (drop (20 * g) xs) i (pos 0) (omega arith)
    ∙ get_or-drop (20 * g) xs i (pos 0)
    ∙ get_or_table n (λ i. at samples (j + i * c)) (20 * g + i) (pos 0) (omega arith)
    ∙ ap (at samples) (omega arith))
    long)

-- ---- the predictors

module _ (s : QoaLms) (xs : List ℤ) where
  -- slice g has a sample
  some_part : (g : ℕ) → 20 * g < length xs → 0 < length (slice_part xs g)
  some_part g h = omega (arith, length_part xs g)

  -- after a slice comes what its search left
  pub before_next : (g : ℕ) → 20 * g < length xs → (encoded_slice (lms_before s xs g) (slice_part xs g)).lms ≡ lms_before s xs (suc g)
  unfolding lms_before
  before_next g h = encoded_lms (lms_before s xs g) (slice_part xs g) (some_part g h)

  -- a slice moves a weight by at most 17920
  pub before_within : {B : ℕ} (g : ℕ) → 20 * g < length xs + 20 → WeightsWithin B s → WeightsWithin (B + 17920 * g) (lms_before s xs g)
  unfolding lms_before
  before_within zero h w = within_more (omega arith) w
  before_within (suc g) h w =
      let few : length (slice_part xs g) ≤ 20 = omega (arith, length_part xs g) in
      let more = encoded_within (lms_before s xs g) (slice_part xs g) (some_part g (omega arith)) few (before_within g (omega arith) w) in
      rw (← before_next g (omega arith)) (within_more (omega arith) more)

  -- histories stay in 16 bits
  pub before_fits : (g : ℕ) → 20 * g < length xs + 20 → HistoryFits s → HistoryFits (lms_before s xs g)
  unfolding lms_before
  before_fits zero h f = f
  before_fits (suc g) h f =
      rw (← before_next g (omega arith)) (encoded_fits (lms_before s xs g) (slice_part xs g) (some_part g (omega arith)) (before_fits g (omega arith) f))

-- ---- one slice more of channel j, as the frame's samples have it

module _ (n c : ℕ) (samples : List ℤ) (s : QoaLms) (j g : ℕ) (some : 20 * g < n) where
  abbrev mine : List ℤ
  mine = strided n samples j c

  -- the search, from the predictor before the slice
  abbrev found_at : QoaLms → Encoded
  found_at now = encoded_slice now (strided (min 20 (n - 20 * g)) samples (20 * g * c + j) c)

  found_is : (now : QoaLms) → now ≡ lms_before s mine g → found_at now ≡ encoded_slice (lms_before s mine g) (slice_part mine g)
  found_is now e = rw (e, part_strided n samples j c g)

  pub next_lms : (now : QoaLms) → now ≡ lms_before s mine g → (found_at now).lms ≡ lms_before s mine (suc g)
  next_lms now e = ap (λ (r : Encoded). r.lms) (found_is now e) ∙ before_next s mine g (omega (arith, strided_length n samples j c))

  pub next_word : (now : QoaLms) → now ≡ lms_before s mine g → (found_at now).word ≡ slice_word s mine g
  unfolding slice_word
  next_word now e = ap (λ (r : Encoded). r.word) (found_is now e)

-- ---- room

-- the last sample of a slice lies within
pub last_inside : (L s j c count : ℕ) → 0 < count → j < c → s + count * c ≤ L → s + j + (count - 1) * c < L
last_inside L s j c count some h room =
    let one : count ≡ suc (count - 1) = omega arith in
    let e : count * c ≡ suc (count - 1) * c = ap (λ (m : ℕ). m * c) one in
    omega (arith, e)

-- the samples of group g, and its words
pub group_inside : (L n c g m : ℕ) → 20 * g + m ≤ n → n * c ≤ L → 20 * g * c + m * c ≤ L
group_inside L n c g m h room = omega (arith, mul-le-mul_right c h)

pub words_before : (L p c g s : ℕ) → g ≤ s → p + 8 * (c * s) ≤ L → p + c * 8 * g ≤ L
words_before L p c g s h room = omega (arith, mul-le-mul_left c h)

pub words_inside : (L p c g s : ℕ) → g < s → p + 8 * (c * s) ≤ L → p + 8 * (g * c) + 8 * c ≤ L
words_inside L p c g s h room = omega (arith, mul-le-mul_right c h)
