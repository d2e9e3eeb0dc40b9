-- How many groups give so many samples: whole ones, and a last one of which a part is asked for. Assumes nothing.
use mathlib.Core.Path.{◌≡◌, refl, ap, sym, ◌∙◌}
use mathlib.Core.Logic.{dite}
use Prim.Native.Nat.{ℕ, zero, suc, ◌+◌, ◌-◌, ◌*◌, ◌/◌, ◌%◌, ◌≤◌, ◌<◌, min}
use native.Mathlib.Decide.{dec_lt}
use native.Mathlib.Nat.{div-add-mod', div-eq_of_lt, div-le_self, div-lt_iff_lt-mul, div-mul-le_self, div_self, div-zero, le-div_iff_mul-le, le_of_mul-le-mul_right, le_trans, lt-div-mul-add, lt_of_mul-lt-mul_right, mod-lt, mul-add-div_right, mul-le-mul_right, mul-zero, not-suc-le-zero}
use native.Mathlib.Omega.{arith}
use Rattle.format.specs.Format.{slices_of}
use Rattle.into.specs.Into.{groups_for}

-- the slices of a whole number of groups, of none, and of one that may be short
pub slices_whole : (w : ℕ) → slices_of (20 * w) ≡ w
unfolding slices_of
slices_whole w = omega arith

pub slices_none : slices_of 0 ≡ 0
unfolding slices_of
slices_none = refl

pub slices_one : (n : ℕ) → 0 < n → n ≤ 20 → slices_of n ≡ 1
unfolding slices_of
slices_one n some few = omega arith

pub slices_most : (n : ℕ) → n ≤ 65535 → slices_of n ≤ 3277
unfolding slices_of
slices_most n few = omega arith

-- the slices hold the samples
pub slices_cover : (n : ℕ) → n ≤ 20 * slices_of n
unfolding slices_of
slices_cover n = omega arith

-- the slices that are left after q of them
pub slices_after : (r q : ℕ) → q ≤ slices_of r → q + slices_of (r - min (20 * q) r) ≡ slices_of r
unfolding slices_of
slices_after r q few = omega arith

-- no group gives no sample
pub groups_none : (c : ℕ) → groups_for c 0 ≡ 0
unfolding groups_for
groups_none zero = refl
groups_none (suc c) = div-eq_of_lt {m = 20 * suc c} (omega arith)

-- one group gives the first sample
pub groups_one : (c : ℕ) → 0 < c → groups_for c 1 ≡ 1
unfolding groups_for
groups_one c some =
    let all : 1 + (20 * c - 1) ≡ 20 * c = omega arith in
    let room : 0 < 20 * c = omega arith in
    rw all (div_self room)

-- a group gives a sample or more
pub groups_most : (c m : ℕ) → groups_for c m ≤ m + (20 * c - 1)
unfolding groups_for
groups_most c m = div-le_self (m + (20 * c - 1)) (20 * c)

-- the groups hold the samples, and with one group fewer they would not
pub groups_cover : (c m : ℕ) → 0 < c → m ≤ 20 * groups_for c m * c
unfolding groups_for
groups_cover c m some =
    let room : 0 < 20 * c = omega arith in
    omega (arith, lt-div-mul-add {a = m + (20 * c - 1)} room)

pub groups_least : (c m p : ℕ) → 0 < c → groups_for c m ≡ suc p → 20 * p * c < m
unfolding groups_for
groups_least c m p some e =
    let product : (m + (20 * c - 1)) / (20 * c) * (20 * c) ≡ suc p * (20 * c) = ap (λ (q : ℕ). q * (20 * c)) e in
    omega (arith, div-mul-le_self (m + (20 * c - 1)) (20 * c))

-- the groups of some of the samples that remain are some of the groups that remain
pub groups_within_frame : (c m r : ℕ) → m ≤ r * c → groups_for c m ≤ slices_of r
unfolding groups_for
groups_within_frame zero m r h = rw div-zero (omega arith)
groups_within_frame (suc c) m r h =
    let cover : r * suc c ≤ 20 * slices_of r * suc c = mul-le-mul_right (suc c) (slices_cover r) in
    let room : 0 < 20 * suc c = omega arith in
    let below : (m + (20 * suc c - 1)) / (20 * suc c) < slices_of r + 1 = (div-lt_iff_lt-mul room).1 (omega arith) in
    omega arith

-- `more` samples of c channels, of which `left` are there for each: w whole groups, and r of a last one that has n for each channel
pub record Split (c left more w r n : ℕ) : Type 0 where
  pub some_channels : 0 < c
  pub parts : w * (20 * c) + r ≡ more
  pub below : r < 20 * c
  pub there : more ≤ left * c
  pub none_last : r ≡ 0 → n ≡ 0
  pub some_last : 0 < r → n ≡ min 20 (left - 20 * w)

-- samples that are there have channels
pub factor_some : (left c more : ℕ) → 0 < more → more ≤ left * c → 0 < c
factor_some left zero more some there = absurd (not-suc-le-zero (le_trans some (rw mul-zero at there)))
factor_some left (suc c) more some there = omega arith

pub split_at : (c left more n : ℕ) → 0 < c → more ≤ left * c → (more % (20 * c) ≡ 0 → n ≡ 0) → (0 < more % (20 * c) → n ≡ min 20 (left - 20 * (more / (20 * c))))
    → Split c left more (more / (20 * c)) (more % (20 * c)) n
split_at c left more n some there none_is some_is =
    let room : 0 < 20 * c = omega arith in
    record { some_channels = some; parts = div-add-mod' more (20 * c); below = mod-lt more room; there = there; none_last = none_is; some_last = some_is }

-- the whole groups, before the last one is known
module _ (c left more : ℕ) (some : 0 < c) (there : more ≤ left * c) where
  pub whole_there : 20 * (more / (20 * c)) ≤ left
  whole_there = le_of_mul-le-mul_right {m = 20 * (more / (20 * c))} {n = left} {k = c} (omega (arith, div-mul-le_self more (20 * c))) some

  pub whole_needed : more / (20 * c) ≤ groups_for c more
  unfolding groups_for
  whole_needed =
      let room : 0 < 20 * c = omega arith in
      (le-div_iff_mul-le {x = more / (20 * c)} room).1 (omega (arith, div-mul-le_self more (20 * c)))

module _ {c left more w r n : ℕ} (s : Split c left more w r n) where
  pub whole_le : 20 * w ≤ left
  whole_le = le_of_mul-le-mul_right {m = 20 * w} {n = left} {k = c} (omega (arith, s.parts, s.there)) s.some_channels

  whole_lt : 0 < r → 20 * w < left
  whole_lt some = lt_of_mul-lt-mul_right c {m = 20 * w} {n = left} (omega (arith, s.parts, s.there))

  -- the last group's samples for each channel
  pub last_some : 0 < r → (0 < n) × (n ≤ 20)
  last_some some =
      let is : n ≡ min 20 (left - 20 * w) = s.some_last some in
      let lt = whole_lt some in
      omega arith

  pub last_few : n ≤ 20
  last_few = dite (dec_lt 0 r) (λ some. (last_some some).1) (λ none. omega (arith, s.none_last (omega arith)))

  pub last_le : n ≤ left - 20 * w
  last_le =
      dite (dec_lt 0 r)
      (λ some. let is : n ≡ min 20 (left - 20 * w) = s.some_last some in omega arith)
      (λ none. omega (arith, s.none_last (omega arith)))

  -- it has what is asked for
  pub rest_le : r ≤ n * c
  rest_le =
      dite (dec_lt 0 r)
      (λ some.
      let is : n ≡ min 20 (left - 20 * w) = s.some_last some in
      let lt = whole_lt some in
      dite (dec_lt (left - 20 * w) 20)
      (λ short.
      let all : left ≡ 20 * w + n = omega arith in
      let product : left * c ≡ (20 * w + n) * c = ap (λ (k : ℕ). k * c) all in
      omega (arith, s.parts, s.there))
      (λ long.
      let full : n ≡ 20 = omega arith in
      rw full (omega (arith, s.below))))
      (λ none. omega arith)

  pub last_slices : (r ≡ 0 → slices_of n ≡ 0) × (0 < r → slices_of n ≡ 1)
  last_slices = (λ none. rw (s.none_last none) slices_none, λ some. slices_one n (last_some some).0 (last_some some).1)

  -- the groups are the whole ones and the last
  pub groups_are : groups_for c more ≡ w + slices_of n
  unfolding groups_for
  groups_are =
      let some : 0 < 20 * c = omega (arith, s.some_channels) in
      let sum : more + (20 * c - 1) ≡ w * (20 * c) + (r + (20 * c - 1)) = omega (arith, s.parts) in
      ap (λ (k : ℕ). k / (20 * c)) sum ∙ mul-add-div_right some w (r + (20 * c - 1)) ∙ ap (λ (k : ℕ). w + k) (last some)
    where
      last : 0 < 20 * c → (r + (20 * c - 1)) / (20 * c) ≡ slices_of n
      last some =
          dite (dec_lt 0 r)
          (λ part.
          let over : r + (20 * c - 1) ≡ 1 * (20 * c) + (r - 1) = omega arith in
          let small : r - 1 < 20 * c = omega (arith, s.below) in
          ap (λ (k : ℕ). k / (20 * c)) over ∙ mul-add-div_right some 1 (r - 1) ∙ ap (λ (k : ℕ). 1 + k) (div-eq_of_lt small) ∙ sym (last_slices.1 part))
          (λ none.
          let zero_rest : r ≡ 0 = omega arith in
          let small : r + (20 * c - 1) < 20 * c = omega arith in
          div-eq_of_lt small ∙ sym (last_slices.0 zero_rest))

  -- and their samples for each channel
  pub samples_are : min (20 * (w + slices_of n)) left ≡ 20 * w + n
  samples_are =
      let le = whole_le in
      dite (dec_lt 0 r)
      (λ part.
      let one = last_slices.1 part in
      let is : n ≡ min 20 (left - 20 * w) = s.some_last part in
      rw one (omega arith))
      (λ none.
      let no-slice = last_slices.0 (omega arith) in
      let no_sample = s.none_last (omega arith) in
      rw (no-slice, no_sample) (omega arith))

  -- some samples need some group
  pub groups_some : 0 < more → 0 < w + slices_of n
  groups_some some =
      dite (dec_lt 0 w)
      (λ whole. omega arith)
      (λ none.
      let no_whole : w ≡ 0 = omega arith in
      let product : w * (20 * c) ≡ 0 * (20 * c) = ap (λ (k : ℕ). k * (20 * c)) no_whole in
      omega (arith, s.parts, last_slices.1 (omega (arith, s.parts))))
