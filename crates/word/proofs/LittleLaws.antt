-- Laws of little-endian numbers and of samples as pairs of bytes: what was stored is what is read. Assumes nothing.
use mathlib.Core.Path.{◌≡◌, refl, sym, ap, ◌∙◌}
use mathlib.Core.List.{List, [], ◌∷◌, ◌++◌, append_assoc}
use Prim.Native.Nat.{ℕ, zero, suc, ◌+◌, ◌*◌, ◌/◌, ◌%◌, ◌^◌, ◌<◌, ◌≤◌, ◌-◌}
use native.Mathlib.Nat.{le_of_suc-le-suc, not-suc-le-zero, mod-eq_of_lt}
use native.Mathlib.Numerals.{add-one}
use native.Mathlib.Omega.{arith}
use lib.Dec.{lit≤}
use lib.IntN.{ℤ, pos}
use lib.ListN.{length, take, drop, get_or, length-take, set, length-append}
use lib.Seq.{take-suc, drop-drop, take_at, drop_at, drop-cons, set-append_seam}
use borrow.Rule.Slice.PartMut.{put_mid}
use mir.Syntax.{w16}
use mir.Val.{SFits, of_z, to_z}
use mir.Facts.{to_z-of_z}
use Rattle.std.specs.Int.{to_le_bytes}
use Rattle.wrap.specs.Wrap.{low16}
use Rattle.wrap.proofs.Modulo.{modulo_lt}
use Rattle.wrap.proofs.Patterns.{low_bits, read_low}
use Rattle.word.specs.Little.{le, le_bytes, le_sample}

-- ---- numbers

-- a byte more below the i bytes that were read, from the top of n bytes on
pub byte_more : (n i : ℕ) (bs : List ℕ) (p : ℕ) → i < n → le (i + 1) bs (p + (n - (i + 1))) ≡ le i bs (p + (n - i)) * 256 + get_or bs (p + (n - 1 - i)) 0
unfolding le
byte_more n i bs p h =
    let here : p + (n - (i + 1)) ≡ p + (n - 1 - i) = omega arith in
    let above : p + (n - 1 - i) + 1 ≡ p + (n - i) = omega arith in
    rw (here, add-one i, above) (omega arith)

-- ---- samples

pub bytes_append : (xs ys : List ℤ) → le_bytes (xs ++ ys) ≡ le_bytes xs ++ le_bytes ys
unfolding le_bytes
bytes_append [] ys = refl
bytes_append (x ∷ xs) ys = ap (λ (l : List ℕ). low16 x % 256 ∷ low16 x / 256 ∷ l) (bytes_append xs ys)

pub length_bytes : (xs : List ℤ) → length (le_bytes xs) ≡ length xs * 2
unfolding le_bytes
length_bytes [] = refl
length_bytes (x ∷ xs) = omega (arith, length_bytes xs)

bytes_one : (x : ℤ) → le_bytes (x ∷ []) ≡ low16 x % 256 ∷ low16 x / 256 ∷ []
unfolding le_bytes
bytes_one x = refl

-- a sample's bytes as the library gives them
pub sample_bytes : (z : ℤ) → SFits w16 z → to_le_bytes w16 (of_z w16 (to_z w16 (of_z w16 z))) ≡ low16 z % 256 ∷ low16 z / 256 ∷ []
sample_bytes z f =
    let bits : of_z w16 (to_z w16 (of_z w16 z)) ≡ low16 z = ap (of_z w16) (to_z-of_z f) ∙ sym (low_bits w16 0xffff refl (lit≤ tt) z f) in
    let small : low16 z < 2 ^ 16 = modulo_lt 0xffff z in
    let high : low16 z / 256 % 256 ≡ low16 z / 256 = mod-eq_of_lt (omega arith) in
    rw (bits, high)

-- one sample more
pub sample_more : (block : List ℤ) (i : ℕ) (out ys : List ℕ) (k : ℕ) → k ≡ 2 → i < length block → i * 2 + 2 ≤ length out
    → ys ≡ low16 (get_or block i (pos 0)) % 256 ∷ low16 (get_or block i (pos 0)) / 256 ∷ []
    → put_mid (i * 2) k (le_bytes (take i block) ++ drop (i * 2) out) ys ≡ le_bytes (take (i + 1) block) ++ drop ((i + 1) * 2) out
sample_more block i out ys k two hi ho stored =
    let x = get_or block i (pos 0) in
    let front = le_bytes (take i block) in
    let rest = drop (i * 2) out in
    let long : length front ≡ i * 2 = omega (arith, length_bytes (take i block), length-take i block) in
    let ends : i * 2 + k ≡ (i + 1) * 2 = omega arith in
    let whole : take (i + 1) block ≡ take i block ++ (x ∷ []) = ap (λ (k : ℕ). take k block) (add-one i) ∙ take-suc block i (pos 0) hi in
    let bytes : le_bytes (take (i + 1) block) ≡ front ++ ys = ap le_bytes whole ∙ (bytes_append (take i block) (x ∷ []) ∙ ap (λ (l : List ℕ). front ++ l) (bytes_one x ∙ sym stored)) in
    let kept : take (i * 2) (front ++ rest) ≡ front = take_at front rest (i * 2) long in
    let past : drop (i * 2) (front ++ rest) ≡ rest = drop_at front rest (i * 2) long in
    rw (kept, past, drop-drop, ends, bytes, append_assoc)

-- two stores at the seam of what is written and what is not
two_stores : (front : List ℕ) (p q : ℕ) (back : List ℕ) (a b : ℕ) → set (set (front ++ p ∷ q ∷ back) (length front) a) (length front + 1) b ≡ (front ++ (a ∷ b ∷ [])) ++ back
two_stores front p q back a b =
    let one : length (front ++ (a ∷ [])) ≡ length front + 1 = length-append front (a ∷ []) in
    ap (λ (l : List ℕ). set l (length front + 1) b) (set-append_seam front p (q ∷ back) a ∙ sym (append_assoc front (a ∷ []) (q ∷ back)))
    ∙ (ap (λ (k : ℕ). set ((front ++ (a ∷ [])) ++ q ∷ back) k b) (sym one)
    ∙ (set-append_seam (front ++ (a ∷ [])) q back b ∙ (append_assoc front (a ∷ []) (b ∷ back) ∙ sym (append_assoc front (a ∷ b ∷ []) back))))

-- one sample more, its two bytes stored one after the other
pub sample_stores : (block : List ℤ) (i : ℕ) (out : List ℕ) → i < length block → i * 2 + 1 < length out
    → set (set (le_bytes (take i block) ++ drop (i * 2) out) (i * 2) (low16 (get_or block i (pos 0)) % 256)) (i * 2 + 1) (low16 (get_or block i (pos 0)) / 256)
    ≡ le_bytes (take (i + 1) block) ++ drop ((i + 1) * 2) out
sample_stores block i out hi ho =
    let x = get_or block i (pos 0) in
    let front = le_bytes (take i block) in
    let long : length front ≡ i * 2 = omega (arith, length_bytes (take i block), length-take i block) in
    let first : drop (i * 2) out ≡ get_or out (i * 2) 0 ∷ drop (suc (i * 2)) out = drop-cons out (i * 2) 0 (omega arith) in
    let second : drop (suc (i * 2)) out ≡ get_or out (suc (i * 2)) 0 ∷ drop (suc (suc (i * 2))) out = drop-cons out (suc (i * 2)) 0 (omega arith) in
    let ends : suc (suc (i * 2)) ≡ (i + 1) * 2 = omega arith in
    let whole : take (i + 1) block ≡ take i block ++ (x ∷ []) = ap (λ (k : ℕ). take k block) (add-one i) ∙ take-suc block i (pos 0) hi in
    let bytes : le_bytes (take (i + 1) block) ≡ front ++ (low16 x % 256 ∷ low16 x / 256 ∷ []) = ap le_bytes whole ∙ (bytes_append (take i block) (x ∷ []) ∙ ap (λ (l : List ℕ). front ++ l) (bytes_one x)) in
    rw (bytes, first, second, ends, ← long) (two_stores front (get_or out (length front) 0) (get_or out (suc (length front)) 0) (drop ((i + 1) * 2) out) (low16 x % 256) (low16 x / 256))

-- the bytes of the sample at i
byte_low : (xs : List ℤ) (i : ℕ) → i < length xs → get_or (le_bytes xs) (i * 2) 0 ≡ low16 (get_or xs i (pos 0)) % 256
unfolding le_bytes
byte_low [] i h = absurd (not-suc-le-zero h)
byte_low (x ∷ xs) zero h = refl
byte_low (x ∷ xs) (suc i) h =
    let place : suc i * 2 ≡ suc (suc (i * 2)) = omega arith in
    rw place (byte_low xs i (le_of_suc-le-suc h))

byte_high : (xs : List ℤ) (i : ℕ) → i < length xs → get_or (le_bytes xs) (i * 2 + 1) 0 ≡ low16 (get_or xs i (pos 0)) / 256
unfolding le_bytes
byte_high [] i h = absurd (not-suc-le-zero h)
byte_high (x ∷ xs) zero h = refl
byte_high (x ∷ xs) (suc i) h =
    let place : suc i * 2 + 1 ≡ suc (suc (i * 2 + 1)) = omega arith in
    rw place (byte_high xs i (le_of_suc-le-suc h))

-- a sample from its two bytes
pub sample_of : (bs : List ℕ) (p : ℕ) → le_sample bs p ≡ to_z w16 (get_or bs p 0 + get_or bs (p + 1) 0 * 256)
unfolding le_sample le
sample_of bs p = ap (to_z w16) (omega arith)

-- the samples that were stored are those that are read
pub sample_back : (xs : List ℤ) (i : ℕ) → i < length xs → SFits w16 (get_or xs i (pos 0)) → le_sample (le_bytes xs) (i * 2) ≡ get_or xs i (pos 0)
unfolding le_sample le
sample_back xs i h short =
    let x = get_or xs i (pos 0) in
    let number : low16 x % 256 + 256 * (low16 x / 256 + 256 * 0) ≡ low16 x = omega arith in
    rw (byte_low xs i h, byte_high xs i h, number) (read_low w16 0xffff refl (lit≤ tt) short)
