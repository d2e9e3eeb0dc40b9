-- The fields of a word and the numbers in its bytes are the same, and fields that are shifted to their places and or-ed make the word. Assumes nothing.
use mathlib.Core.Path.{◌≡◌, ◌∙◌, ap, sym}
use mathlib.Core.List.{List}
use Prim.Native.Nat.{ℕ, zero, suc, ◌+◌, ◌-◌, ◌*◌, ◌%◌, ◌^◌, ◌≤◌, ◌<◌}
use native.Mathlib.Nat.{add_assoc, zero-add}
use native.Mathlib.Omega.{arith}
use lib.Bits.{bit_or}
use lib.Dec.{lit<}
use lib.ListN.{get_or}
use lib.Pow.{high, low}
use Rattle.word.specs.Table.{table}
use Rattle.word.specs.Bytes.{be, byte_of, bytes_of}
use Rattle.word.specs.Word.{field}
use Rattle.word.proofs.Push.{push, push_lt}
use Rattle.word.proofs.BytesLaws.{be_ext, be_join, bytes_bits, be_lt_bits, be_of, byte_at, byte_below}

-- every element is a byte, as the elements of a `&[u8]` are
abbrev pub AreBytes : List ℕ → Type 0
AreBytes bs = (i : ℕ) → get_or bs i 0 < 256

-- what holds of every entry of a table, and of what stands past its end, holds at every index
pub at_each : {A : Type 0} (P : A → Type 0) (n : ℕ) (f : ℕ → A) (d : A) → P d → ((i : ℕ) → P (f i)) → (i : ℕ) → P (get_or (table n f) i d)
unfolding table
at_each P zero f d past each i = past
at_each P (suc n) f d past each zero = each 0
at_each P (suc n) f d past each (suc i) = at_each P n (λ j. f (suc j)) d past (λ j. each (suc j)) i

-- ---- from bytes to fields

-- n bytes with m before them and k after them are a field of the whole number
pub be_field : (m n k : ℕ) (bs : List ℕ) (p : ℕ) → AreBytes bs → field (8 * n) (8 * k) (be (m + n + k) bs p) ≡ be n bs (p + m)
be_field m n k bs p small =
    let whole : be (m + n + k) bs p ≡ be (m + n) bs p * 2 ^ (8 * k) + be k bs (p + (m + n)) = rw (← bytes_bits k) (be_join (m + n) k bs p) in
    let upper : be (m + n) bs p ≡ be m bs p * 2 ^ (8 * n) + be n bs (p + m) = rw (← bytes_bits n) (be_join m n bs p) in
    ap (λ (w : ℕ). field (8 * n) (8 * k) w) whole
    ∙ ap (λ (w : ℕ). w % 2 ^ (8 * n)) (high (be (m + n) bs p) (8 * k) (be_lt_bits k bs (p + (m + n)) small) ∙ upper)
    ∙ low (be m bs p) (8 * n) (be_lt_bits n bs (p + m) small)

-- the bytes of a word are bytes, and past them is 0
pub are_bytes : (n w : ℕ) → AreBytes (bytes_of n w)
unfolding bytes_of
are_bytes n w = at_each (λ b. b < 256) n (byte_of n w) 0 (lit< tt) (byte_below n w)

-- the bytes of w stand in bs from the place p on
abbrev pub Stored : ℕ → ℕ → List ℕ → ℕ → Type 0
Stored n w bs p = (i : ℕ) → i < n → get_or bs (p + i) 0 ≡ byte_of n w i

-- there a field of w is read
pub stored_field : (m n k w : ℕ) (bs : List ℕ) (p : ℕ) → Stored (m + n + k) w bs p → w < 256 ^ (m + n + k) → be n bs (p + m) ≡ field (8 * n) (8 * k) w
stored_field m n k w bs p stored small =
    let own = bytes_of (m + n + k) w in
    let whole : Stored (m + n + k) w own 0 = λ i h. rw zero-add (byte_at (m + n + k) w i h) in
    let same : (i : ℕ) → i < n → get_or bs (p + m + i) 0 ≡ get_or own (0 + m + i) 0 =
    λ i h. rw (add_assoc p m i, add_assoc 0 m i) (stored (m + i) (omega arith) ∙ sym (whole (m + i) (omega arith))) in
    be_ext n bs own (p + m) (0 + m) same
    ∙ sym (be_field m n k own 0 (are_bytes (m + n + k) w))
    ∙ ap (λ (v : ℕ). field (8 * n) (8 * k) v) (be_of (m + n + k) w own 0 whole small)

-- ---- from fields to a word

-- a field with k bits below it, one with 32, one with 16 and one with none share no bit
pub joined : (k a b c d : ℕ) → 32 ≤ k → k ≤ 64 → a < 2 ^ (64 - k) → b < 2 ^ (k - 32) → c < 2 ^ 16 → d < 2 ^ 16
    → bit_or (a * 2 ^ k % 2 ^ 64) (bit_or (b * 2 ^ 32 % 2 ^ 64) (bit_or (c * 2 ^ 16 % 2 ^ 64) d)) ≡ a * 2 ^ k + (b * 2 ^ 32 + (c * 2 ^ 16 + d))
joined k a b c d above below ha hb hc hd =
    let low_part : c * 2 ^ 16 + d < 2 ^ 32 = push_lt 16 16 hc hd in
    let bits : k - 32 + 32 ≡ k = omega arith in
    let lower : b * 2 ^ 32 + (c * 2 ^ 16 + d) < 2 ^ k = rw bits at (push_lt (k - 32) 32 hb low_part) in
    rw (push 16 16 hc (omega arith) hd, push (k - 32) 32 hb (omega arith) low_part) (push (64 - k) k ha (omega arith) lower)
