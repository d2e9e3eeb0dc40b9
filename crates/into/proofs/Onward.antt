-- The state after some samples goes on where they ended: the samples still to come are the later ones, and all that remains of the frame ends where it did. Assumes nothing.
use mathlib.Core.Path.{◌≡◌, refl, ap, ap₂, sym, ◌∙◌}
use mathlib.Core.Bool.{false}
use mathlib.Core.List.{List}
use mathlib.Core.Logic.{dite}
use Prim.Native.Nat.{ℕ, zero, suc, ◌+◌, ◌-◌, ◌*◌, ◌/◌, ◌%◌, ◌≤◌, ◌<◌}
use native.Mathlib.Decide.{dec_lt}
use native.Mathlib.Nat.{mod-lt, mul-add-div_right, mul-add-mod_self_right}
use native.Mathlib.Omega.{arith}
use borrow.Author.Tests.{le-ltb, lt-ltb, ne_eqb}
use lib.Dec.{eqb}
use lib.IntN.{pos}
use lib.ListN.{get_or}
use Rattle.word.proofs.Tables.{get_or_table}
use Rattle.lms.specs.declared.QoaLms.{QoaLms}
use Rattle.format.specs.Format.{slices_of}
use Rattle.format.specs.Predictor.{lms_of, no_lms}
use Rattle.groups.specs.Channel.{channel_at, run_after}
use Rattle.groups.specs.Groups.{groups_at, word_at}
use Rattle.groups.proofs.GroupLaws.{words_from}
use Rattle.groups.proofs.Runs.{channel_shift}
use Rattle.state.specs.View.{View, channels_of, total, waiting}
use Rattle.into.specs.Into.{coming_at, groups_end, groups_for, groups_lms, groups_needed, groups_samples, pending_from, pending_to, taken_from}
use Rattle.into.proofs.Counts.{factor_some, groups_cover, groups_least, groups_none, groups_within_frame, slices_after}
use Rattle.into.proofs.Ranges.{range_length}

-- the samples of the groups after the first q of them, from the predictors after those
pub groups_onward : (bs : List ℕ) (v : View) (q k : ℕ) → 0 < channels_of v
    → groups_at bs v.at (channels_of v) v.lms (20 * q * channels_of v + k) ≡ groups_at bs (groups_end v q) (channels_of v) (groups_lms bs v q) k
unfolding groups_at groups_lms
groups_onward bs v q k some =
    let c : ℕ = channels_of v in
    let channel : (20 * q * c + k) % c ≡ k % c = mul-add-mod_self_right (20 * q) c k in
    let place : (20 * q * c + k) / c ≡ 20 * q + k / c = mul-add-div_right some (20 * q) k in
    let j : ℕ = k % c in
    let run = get_or_table c (λ i. run_after (word_at bs v.at c i) (lms_of v.lms i) q) j no_lms (mod-lt k some) in
    rw (channel, place)
    (channel_shift (word_at bs v.at c j) (lms_of v.lms j) q (k / c)
    ∙ ap₂ (λ (w : ℕ → ℕ) (s : QoaLms). channel_at w s (k / c)) (words_from bs v.at c j q) (sym run))

-- the pending samples, and then those of the groups
module _ (bs : List ℕ) (v : View) (i : ℕ) where
  coming_first : i < waiting v → coming_at bs v i ≡ get_or v.pending i (pos 0)
  unfolding coming_at
  coming_first h = rw (lt-ltb i (waiting v) h)

  pub coming_then : waiting v ≤ i → coming_at bs v i ≡ groups_at bs v.at (channels_of v) v.lms (i - waiting v)
  unfolding coming_at
  coming_then h = rw (le-ltb i (waiting v) h)

product_parts : (a b r c : ℕ) → a + b ≡ r → a * c + b * c ≡ r * c
product_parts a b r c e = rw (← e) (omega arith)

-- what is left between k and the end of u + g, counted from a place that k has passed
left_from : (u g before k : ℕ) → u + before ≤ k → k ≤ u + g → u + g - (u + before) - (k - (u + before)) + k ≡ u + g
left_from u g before k passed inside = omega arith

-- after k samples, for which as many groups were decoded as they need
module _ (bs : List ℕ) (v : View) (k : ℕ) (there : k ≤ total v) where
  abbrev c : ℕ
  c = channels_of v

  abbrev q : ℕ
  q = groups_needed v k

  abbrev pub onward : View
  onward = taken_from bs v q k

  more_there : k - waiting v ≤ v.remaining * c
  more_there = omega arith

  some_channels : waiting v < k → 0 < c
  some_channels h = factor_some v.remaining c (k - waiting v) (omega arith) more_there

  -- the groups' samples are enough
  enough : (p : ℕ) → q ≡ p → 0 < c → k ≤ waiting v + groups_samples v p * c
  enough p e some =
      let cover : k - waiting v ≤ 20 * p * c = rw e at (groups_cover c (k - waiting v) some) in
      dite (dec_lt (20 * p) v.remaining)
      (λ all. let is : groups_samples v p ≡ 20 * p = omega arith in rw is (omega arith))
      (λ part. let is : groups_samples v p ≡ v.remaining = omega arith in rw is (omega (arith, more_there)))

  -- what is pending then, together with the k samples, is what was pending with the groups' samples
  pending_sum : (p : ℕ) → q ≡ p → pending_to v p - pending_from v p k + k ≡ waiting v + groups_samples v p * c
  pending_sum zero e =
      let none : groups_samples v 0 ≡ 0 = omega arith in
      let inside : k ≤ waiting v =
      dite (dec_lt (waiting v) k)
      (λ past. let all : k ≤ waiting v + 0 * c = rw none at (enough 0 e (some_channels past)) in omega arith)
      (λ le. omega arith) in
      rw none (omega arith)
  pending_sum (suc p) e =
      let past : waiting v < k =
      dite (dec_lt (waiting v) k)
      (λ h. h)
      (λ le. let m : k - waiting v ≡ 0 = omega arith in absurd (omega (arith, sym (ap (groups_for c) m ∙ groups_none c) ∙ e))) in
      let some-group : eqb (suc p) 0 ≡ false = ne_eqb (suc p) 0 (λ z. omega arith) in
      let last : suc p - 1 ≡ p = omega arith in
      rw (some-group, last)
      (left_from (waiting v) (groups_samples v (suc p) * c) (20 * p * c) k (omega (arith, groups_least c (k - waiting v) p (some_channels past) e)) (enough (suc p) e (some_channels past)))

  waiting_onward : waiting onward + k ≡ waiting v + groups_samples v q * c
  unfolding taken_from
  waiting_onward = ap (λ (n : ℕ). n + k) (range_length (pending_from v q k) (pending_to v q)) ∙ pending_sum q refl

  -- the groups' samples and those after them are all that remained
  remaining_sum : onward.remaining * c + groups_samples v q * c ≡ v.remaining * c
  unfolding taken_from
  remaining_sum = product_parts (v.remaining - groups_samples v q) (groups_samples v q) v.remaining c (omega arith)

  channels_onward : channels_of onward ≡ c
  unfolding taken_from
  channels_onward = refl

  total_sum : total onward + k ≡ total v
  unfolding taken_from
  total_sum = omega (arith, waiting_onward, remaining_sum)

  pub total_onward : total onward ≡ total v - k
  total_onward = omega (arith, total_sum)

  -- a sample past the pending ones has whole groups before it
  groups_whole : (i : ℕ) → waiting onward ≤ i → i < total onward → (groups_samples v q ≡ 20 * q) × (0 < c)
  unfolding taken_from
  groups_whole i past h =
      let left : ℕ = v.remaining - groups_samples v q in
      dite (dec_lt (20 * q) v.remaining)
      (λ whole. (omega arith, factor_some left c (i - waiting onward + 1) (omega arith) (omega arith)))
      (λ all. let none : left ≡ 0 = omega arith in absurd (omega (arith, ap (λ (n : ℕ). n * c) none)))

  pub coming_onward : (i : ℕ) → i < total onward → coming_at bs onward i ≡ coming_at bs v (k + i)
  unfolding taken_from
  coming_onward i h =
      dite (dec_lt i (waiting onward))
      (λ pending.
      let inside : i < pending_to v q - pending_from v q k = omega (arith, range_length (pending_from v q k) (pending_to v q)) in
      coming_first bs onward i pending ∙ get_or_table (pending_to v q - pending_from v q k) (λ i. coming_at bs v (k + i)) i (pos 0) inside)
      (λ past.
      let later : waiting onward ≤ i = omega arith in
      let whole = groups_whole i later h in
      let product : groups_samples v q * c ≡ 20 * q * c = ap (λ (n : ℕ). n * c) whole.0 in
      let place : 20 * q * c + (i - waiting onward) ≡ k + i - waiting v = omega (arith, waiting_onward) in
      coming_then bs onward i later
      ∙ sym (groups_onward bs v q (i - waiting onward) whole.1)
      ∙ ap (groups_at bs v.at c v.lms) place
      ∙ sym (coming_then bs v (k + i) (omega (arith, waiting_onward))))

  pub end_onward : groups_end onward (slices_of onward.remaining) ≡ groups_end v (slices_of v.remaining)
  unfolding taken_from
  end_onward =
      let few = groups_within_frame c (k - waiting v) v.remaining more_there in
      let product = product_parts q (slices_of (v.remaining - groups_samples v q)) (slices_of v.remaining) c (slices_after v.remaining q few) in
      omega arith
