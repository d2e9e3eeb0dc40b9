-- No two answers have the same code: a refusal's number is never 0, and below 14, which has more to tell; a channel fits a byte. Assumes nothing.
use Prim.Native.Nat.{ℕ, zero, suc, ◌+◌, ◌*◌, ◌<◌}
use mathlib.Core.Path.{◌≡◌, refl, sym, ap, ap₂}
use native.Mathlib.Omega.{arith}
use lib.IntN.{pos, neg_ℤ}
use Rattle.refusal.specs.Rules.{Answer, good, refused}
use Rattle.encoder.specs.Calls.{Told, refuses, refuses_14, wrote}
use Rattle.codes.specs.Codes.{coded, coded_encode}

-- the number of a refusal that tells no more than it
abbrev pub Low : ℕ → Type 0
Low n = (0 < n) × (n < 14)

pos_one : (m n : ℕ) → pos m ≡ pos n → m ≡ n
pos_one m n e = cc

pub neg_one : (m n : ℕ) → neg_ℤ (pos m) ≡ neg_ℤ (pos n) → m ≡ n
neg_one zero zero e = refl
neg_one zero (suc n) e = let z : ◌≡◌ {A = ℕ} 0 1 = cc in absurd (omega arith)
neg_one (suc m) zero e = let z : ◌≡◌ {A = ℕ} 0 1 = cc in absurd (omega arith)
neg_one (suc m) (suc n) e = cc

-- a count is no refusal
pub pos_neg : {X : Type 0} (m n : ℕ) → 0 < n → pos m ≡ neg_ℤ (pos n) → X
pos_neg m zero l e = absurd (omega arith)
pos_neg m (suc n) l e = let z : ◌≡◌ {A = ℕ} 0 1 = cc in absurd (omega arith)

-- ---- a count, or a refusal

abbrev pub Named : {A : Type 0} → Answer A → Type 0
Named (refused n) = Low n
Named (good n) = Unit {0}

pub coded_one : (a b : Answer ℕ) → Named a → Named b → coded a ≡ coded b → a ≡ b
coded_one (refused m) (refused n) p q e = ap {B = Answer ℕ} refused (neg_one m n e)
coded_one (refused m) (good n) p q e = pos_neg n m p.0 (sym e)
coded_one (good m) (refused n) p q e = pos_neg m n q.0 e
coded_one (good m) (good n) p q e = ap {B = Answer ℕ} good (pos_one m n e)

-- ---- the encoder's

-- what refusal 14 has below the sign
abbrev wide_code : ℕ → ℕ → ℕ
wide_code bytes channel = 14 + 256 * channel + 65536 * bytes

abbrev pub NamedTold : Told → Type 0
NamedTold (wrote n) = Unit {0}
NamedTold (refuses n) = Low n
NamedTold (refuses_14 bytes channel) = channel < 256

wide_bytes : (b d i j : ℕ) → i < 256 → j < 256 → wide_code b i ≡ wide_code d j → b ≡ d
wide_bytes b d i j p q e = omega arith

wide_channel : (b d i j : ℕ) → i < 256 → j < 256 → wide_code b i ≡ wide_code d j → i ≡ j
wide_channel b d i j p q e = let s = wide_bytes b d i j p q e in omega arith

never_wide : {X : Type 0} (n b j : ℕ) → n < 14 → n ≡ wide_code b j → X
never_wide n b j l e = absurd (omega arith)

pub coded_encode_one : (a b : Told) → NamedTold a → NamedTold b → coded_encode a ≡ coded_encode b → a ≡ b
coded_encode_one (wrote m) (wrote n) p q e = ap wrote (pos_one m n e)
coded_encode_one (wrote m) (refuses n) p q e = pos_neg m n q.0 e
coded_encode_one (wrote m) (refuses_14 d j) p q e = pos_neg m (wide_code d j) (omega arith) e
coded_encode_one (refuses m) (wrote n) p q e = pos_neg n m p.0 (sym e)
coded_encode_one (refuses m) (refuses n) p q e = ap refuses (neg_one m n e)
coded_encode_one (refuses m) (refuses_14 d j) p q e = never_wide m d j p.1 (neg_one m (wide_code d j) e)
coded_encode_one (refuses_14 b i) (wrote n) p q e = pos_neg n (wide_code b i) (omega arith) (sym e)
coded_encode_one (refuses_14 b i) (refuses n) p q e = never_wide n b i q.1 (neg_one n (wide_code b i) (sym e))
coded_encode_one (refuses_14 b i) (refuses_14 d j) p q e =
    let s = neg_one (wide_code b i) (wide_code d j) e in
    ap₂ refuses_14 (wide_bytes b d i j p q s) (wide_channel b d i j p q s)
