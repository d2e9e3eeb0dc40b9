-- A word that grows from below: shifted left, with a field or-ed in. One law for bytes and for codes. Assumes nothing.
use mathlib.Core.Path.{◌≡◌, ◌∙◌, ap, subst, sym}
use Prim.Native.Nat.{ℕ, ◌+◌, ◌*◌, ◌/◌, ◌%◌, ◌^◌, ◌≤◌, ◌<◌}
use lib.Arith.{digits_lt}
use lib.Bits.{bit_or, or_shifted}
use lib.Pow.{shl_exact, pow-add, shr-shr, split}

-- the shift loses nothing, and the field lies below it
pub push : {n b : ℕ} (j k : ℕ) → n < 2 ^ j → j + k ≤ 64 → b < 2 ^ k → bit_or ((n * 2 ^ k) % 2 ^ 64) b ≡ n * 2 ^ k + b
push {n} {b} j k hn fits hb = ap (λ (m : ℕ). bit_or m b) (shl_exact j k 64 hn fits) ∙ or_shifted n k b hb

-- a field of k bits more makes a number of k bits more
pub push_lt : {n b : ℕ} (j k : ℕ) → n < 2 ^ j → b < 2 ^ k → n * 2 ^ k + b < 2 ^ (j + k)
push_lt {n} {b} j k hn hb = subst (λ (m : ℕ). n * 2 ^ k + b < m) (sym (pow-add 2 j k)) (digits_lt hn hb)

-- the next j bits of a number, pushed in below what lies above them
pub next_field : (w k j : ℕ) → w / 2 ^ (k + j) * 2 ^ j + w / 2 ^ k % 2 ^ j ≡ w / 2 ^ k
next_field w k j = rw (← shr-shr w k j) (split (w / 2 ^ k) j)
