-- Numbers and parts that stand one behind the other are read where they stand. Assumes nothing.
use Prim.Native.Nat.{ℕ, zero, suc, ◌+◌, ◌*◌, ◌≤◌, ◌<◌, ◌^◌}
use mathlib.Core.Bool.{Bool, true, false}
use mathlib.Core.List.{List, [], ◌∷◌, ◌++◌}
use borrow.Author.Tests.{ltb-false, ltb-true}
use mathlib.Core.Path.{◌≡◌, refl, sym, ap, ◌∙◌}
use native.Mathlib.Nat.{add-zero, mul_comm, mul-le-mul_left, zero-add}
use native.Mathlib.Omega.{arith}
use lib.Dec.{ltb}
use lib.ListN.{get_or, length}
use Rattle.word.specs.Bytes.{be, bytes_of}
use Rattle.word.proofs.BytesLaws.{be_append, be_of_bytes, be_past, length_bytes}
use Rattle.body.specs.Laid.{laid}
use Rattle.body.proofs.Laids.{length_laid}

-- a byte is a number
pub be_one : (bs : List ℕ) (p : ℕ) → be 1 bs p ≡ get_or bs p 0
unfolding be
be_one bs p = rw (add-zero, zero-add)

-- ---- numbers of a width each, then the rest

pub record Field : Type 0 where
  pub width : ℕ
  pub value : ℕ

unfoldable pub joined : List Field → List ℕ → List ℕ
joined [] rest = rest
joined (f ∷ fs) rest = bytes_of f.width f.value ++ joined fs rest

-- a field, and its place
pub data At : List Field → ℕ → Field → Type 0 where
  here : {f : Field} {fs : List Field} → At (f ∷ fs) 0 f
  there : {g f : Field} {fs : List Field} {p : ℕ} → At fs p f → At (g ∷ fs) (g.width + p) f

pub read_field : {fs : List Field} {p : ℕ} {f : Field} (rest : List ℕ) → At fs p f → f.value < 256 ^ f.width → be f.width (joined fs rest) p ≡ f.value
unfolding joined
read_field rest (here {f = f} {fs = fs}) small = be_of_bytes f.width f.value (joined fs rest) small
read_field rest (there {g = g} {f = f} {fs = fs} {p = p} a) small =
    ap (λ (n : ℕ). be f.width (bytes_of g.width g.value ++ joined fs rest) (n + p)) (sym (length_bytes g.width g.value))
    ∙ be_past f.width (bytes_of g.width g.value) (joined fs rest) p
    ∙ read_field rest a small

-- the rest stands behind them
unfoldable pub widths : List Field → ℕ
widths [] = 0
widths (f ∷ fs) = f.width + widths fs

pub read_rest : (fs : List Field) (rest : List ℕ) (n p : ℕ) → be n (joined fs rest) (widths fs + p) ≡ be n rest p
unfolding joined widths
read_rest [] rest n p = rw zero-add
read_rest (f ∷ fs) rest n p =
    let behind : f.width + widths fs + p ≡ length (bytes_of f.width f.value) + (widths fs + p) = omega (arith, length_bytes f.width f.value) in
    ap (be n (bytes_of f.width f.value ++ joined fs rest)) behind
    ∙ be_past n (bytes_of f.width f.value) (joined fs rest) (widths fs + p)
    ∙ read_rest fs rest n p

-- ---- parts of one length, then the rest

module _ (m : ℕ) (f : ℕ → List ℕ) (same : (i : ℕ) → length (f i) ≡ m) (n p : ℕ) (within : p + n ≤ m) where
  room : (j k : ℕ) → j < k → m * j + p + n ≤ length (laid k f)
  room j k l = omega (arith, length_laid m k f same, mul-le-mul_left m l)

  -- in the last part, or in one before it
  last_or_before : (k j : ℕ) → j < suc k → (j < k → be n (laid k f) (m * j + p) ≡ be n (f j) p) → be n (laid k f ++ f k) (m * j + p) ≡ be n (f j) p
  last_or_before k j l sooner = by (ltb j k) refl
    where
      by : (b : Bool) → ltb j k ≡ b → be n (laid k f ++ f k) (m * j + p) ≡ be n (f j) p
      by true e = be_append n (laid k f) (f k) (m * j + p) (room j k (ltb-true j k e)) ∙ sooner (ltb-true j k e)
      by false e =
          let last : j ≡ k = let past = ltb-false j k e in omega arith in
          let behind : m * j + p ≡ length (laid k f) + p = omega (arith, length_laid m k f same, ap (λ (i : ℕ). m * i) last, mul_comm m k) in
          ap (be n (laid k f ++ f k)) behind ∙ be_past n (laid k f) (f k) p ∙ ap (λ (i : ℕ). be n (f i) p) (sym last)

  pub inside : (k j : ℕ) → j < k → be n (laid k f) (m * j + p) ≡ be n (f j) p
  unfolding laid
  inside zero j l = absurd (omega arith)
  inside (suc k) j l = last_or_before k j l (inside k j)

  pub read_part : (k j : ℕ) (rest : List ℕ) → j < k → be n (laid k f ++ rest) (m * j + p) ≡ be n (f j) p
  read_part k j rest l = be_append n (laid k f) rest (m * j + p) (room j k l) ∙ inside k j l
