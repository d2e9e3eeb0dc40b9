-- Laws of numbers in bytes: where a number is read, how large it is, and that what was stored is what is read. Assumes nothing.
use mathlib.Core.Path.{◌≡◌, refl, ◌∙◌, sym}
use mathlib.Core.List.{List, ◌++◌}
use mathlib.Core.Logic.{◌⊎◌, ⊎_elim}
use Prim.Native.Nat.{ℕ, zero, suc, ◌+◌, ◌-◌, ◌*◌, ◌/◌, ◌^◌, ◌≤◌, ◌<◌}
use native.Mathlib.Nat.{add-zero, zero-add, add-suc, add_assoc, sub-zero, mul-one, mul_assoc, pow-suc, div-one, mod-lt, div-eq_of_lt}
use native.Mathlib.Omega.{arith}
use lib.Dec.{lit<}
use lib.Arith.{digits_lt}
use lib.ListN.{length, get_or, take, drop, get_or-append}
use lib.Pow.{pow-add}
use lib.Seq.{get_or-take, get_or-drop, get_or-append-add}
use Rattle.word.specs.Bytes.{be, byte_of, bytes_of}
use Rattle.word.proofs.Push.{next_field}
use Rattle.word.proofs.Tables.{length_table, get_or_table}
use Rattle.word.proofs.Writes.{length_written, written_at, written_other, written_list}
use Rattle.word.specs.Parts.{put}

-- ---- where a number is read

-- the same bytes make the same number
pub be_ext : (n : ℕ) (bs cs : List ℕ) (p q : ℕ) → ((i : ℕ) → i < n → get_or bs (p + i) 0 ≡ get_or cs (q + i) 0) → be n bs p ≡ be n cs q
unfolding be
be_ext zero bs cs p q same = refl
be_ext (suc n) bs cs p q same = rw (be_ext n bs cs p q (λ i h. same i (omega arith)), same n (omega arith))

pub be_drop : (n k : ℕ) (bs : List ℕ) (p : ℕ) → be n (drop k bs) p ≡ be n bs (k + p)
be_drop n k bs p = be_ext n (drop k bs) bs p (k + p) (λ i h. rw (get_or-drop, add_assoc))

pub be_take : (n k : ℕ) (bs : List ℕ) (p : ℕ) → p + n ≤ k → be n (take k bs) p ≡ be n bs p
be_take n k bs p room = be_ext n (take k bs) bs p p (λ i h. get_or-take k bs (p + i) 0 (omega arith))

-- within the first of two lists, and past it
pub be_append : (n : ℕ) (xs ys : List ℕ) (p : ℕ) → p + n ≤ length xs → be n (xs ++ ys) p ≡ be n xs p
be_append n xs ys p room = be_ext n (xs ++ ys) xs p p (λ i h. get_or-append xs ys 0 (p + i) (omega arith))

pub be_past : (n : ℕ) (xs ys : List ℕ) (p : ℕ) → be n (xs ++ ys) (length xs + p) ≡ be n ys p
be_past n xs ys p = be_ext n (xs ++ ys) ys (length xs + p) p (λ i h. rw add_assoc (get_or-append-add xs ys (p + i) 0))

-- a number in two parts
pub be_join : (m n : ℕ) (bs : List ℕ) (p : ℕ) → be (m + n) bs p ≡ be m bs p * 256 ^ n + be n bs (p + m)
unfolding be
be_join m zero bs p = rw (add-zero m, mul-one, add-zero)
be_join m (suc n) bs p =
    let top : be m bs p * 256 ^ suc n ≡ be m bs p * 256 ^ n * 256 = rw (pow-suc, mul_assoc) in
    rw (add-suc, be_join m n bs p, top, add_assoc) (omega arith)

-- ---- how large it is

-- n bytes have 8 n bits
pub bytes_bits : (n : ℕ) → 256 ^ n ≡ 2 ^ (8 * n)
bytes_bits zero = refl
bytes_bits (suc n) =
    let more : 8 * suc n ≡ 8 * n + 8 = omega arith in
    rw (pow-suc, more, pow-add 2 (8 * n) 8, bytes_bits n)

pub be_lt : (n : ℕ) (bs : List ℕ) (p : ℕ) → ((i : ℕ) → get_or bs i 0 < 256) → be n bs p < 256 ^ n
unfolding be
be_lt zero bs p small = lit< tt
be_lt (suc n) bs p small = rw pow-suc (digits_lt (be_lt n bs p small) (small (p + n)))

-- the same, in bits: below 2 ^ 16 for two bytes, 2 ^ 64 for eight
pub be_lt_bits : (n : ℕ) (bs : List ℕ) (p : ℕ) → ((i : ℕ) → get_or bs i 0 < 256) → be n bs p < 2 ^ (8 * n)
be_lt_bits n bs p small = rw (← bytes_bits n) (be_lt n bs p small)

-- ---- a number's bytes

pub byte_below : (n w i : ℕ) → byte_of n w i < 256
unfolding byte_of
byte_below n w i = mod-lt (w / 2 ^ (8 * (n - 1 - i))) (lit< tt)

pub length_bytes : (n w : ℕ) → length (bytes_of n w) ≡ n
unfolding bytes_of
length_bytes n w = length_table n (byte_of n w)

pub byte_at : (n w i : ℕ) → i < n → get_or (bytes_of n w) i 0 ≡ byte_of n w i
unfolding bytes_of
byte_at n w i h = get_or_table n (byte_of n w) i 0 h

pub bytes_below : (n w i : ℕ) → i < n → get_or (bytes_of n w) i 0 < 256
bytes_below n w i h = rw (byte_at n w i h) (byte_below n w i)

-- where a number's bytes stand, its topmost k bytes make what lies above the others
tops : (n w : ℕ) (bs : List ℕ) (p : ℕ) → ((i : ℕ) → i < n → get_or bs (p + i) 0 ≡ byte_of n w i) → w < 2 ^ (8 * n)
    → (k : ℕ) → k ≤ n → be k bs p ≡ w / 2 ^ (8 * (n - k))
unfolding be byte_of
tops n w bs p same small zero h = rw sub-zero (sym (div-eq_of_lt small))
tops n w bs p same small (suc k) h =
    let above : 8 * (n - k) ≡ 8 * (n - 1 - k) + 8 = omega arith in
    let here : 8 * (n - 1 - k) ≡ 8 * (n - suc k) = omega arith in
    rw (tops n w bs p same small k (omega arith), same k h, above, next_field w (8 * (n - 1 - k)) 8, here)

-- where a number's bytes stand, the number is read
pub be_of : (n w : ℕ) (bs : List ℕ) (p : ℕ) → ((i : ℕ) → i < n → get_or bs (p + i) 0 ≡ byte_of n w i) → w < 256 ^ n → be n bs p ≡ w
be_of n w bs p same small =
    let none : 8 * (n - n) ≡ 0 = omega arith in
    tops n w bs p same (rw (← bytes_bits n) small) n (omega arith) ∙ rw none (div-one w)

pub be_of_bytes : (n w : ℕ) (rest : List ℕ) → w < 256 ^ n → be n (bytes_of n w ++ rest) 0 ≡ w
be_of_bytes n w rest small =
    be_of n w (bytes_of n w ++ rest) 0 (λ i h. rw zero-add (get_or-append (bytes_of n w) rest 0 i (rw length_bytes h) ∙ byte_at n w i h)) small

-- ---- a number stored

module _ (n : ℕ) (out : List ℕ) (p w : ℕ) where
  pub length_put : length (put n out p w) ≡ length out
  length_put = length_written (byte_of n w) out p 1 n

  pub put_at : (i : ℕ) → i < n → p + n ≤ length out → get_or (put n out p w) (p + i) 0 ≡ byte_of n w i
  put_at i h room = rw mul-one at (written_at (byte_of n w) out p 1 n i 0 (lit< tt) h (omega (arith, mul-one i)))

  -- what was stored is what is read
  pub be_of_put : w < 256 ^ n → p + n ≤ length out → be n (put n out p w) p ≡ w
  be_of_put small room = be_of n w (put n out p w) p (λ i h. put_at i h room) small

  -- elsewhere a number is as it was
  pub put_other : (m q : ℕ) → (q + m ≤ p) ⊎ (p + n ≤ q) → be m (put n out p w) q ≡ be m out q
  put_other m q apart =
      be_ext m (put n out p w) out q q
      (λ i h. written_other (byte_of n w) out p 1 n (q + i) 0
      (λ j l e. ⊎_elim (λ before. omega (arith, mul-one j)) (λ behind. omega (arith, mul-one j)) apart))

  -- what lies before, the bytes, what lies after
  pub put_list : p + n ≤ length out → put n out p w ≡ take p out ++ (bytes_of n w ++ drop (p + n) out)
  unfolding bytes_of
  put_list room = written_list (byte_of n w) out p n room
