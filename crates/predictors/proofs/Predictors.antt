-- Laws of a channel's predictor state in bytes. Assumes nothing.
use Prim.Native.Nat.{ℕ, zero, suc, ◌+◌, ◌-◌, ◌*◌, ◌%◌, ◌^◌, ◌≤◌, ◌<◌}
use mathlib.Core.Path.{◌≡◌, refl, ap, ◌∙◌}
use mathlib.Core.List.{List, ◌++◌}
use mathlib.Core.Logic.{◌≢◌, ◌⊎◌, ⊎_elim}
use native.Mathlib.Nat.{add_assoc, mul-one}
use native.Mathlib.Omega.{arith}
use lib.Bits.{bit_or}
use lib.Dec.{lit<, lit≤}
use lib.IntN.{ℤ, pos, negsuc, nat_abs}
use lib.ListN.{length, get_or, take, drop, get_or-append}
use lib.Seq.{get_or-take, get_or-drop, get_or-append-add}
use mir.Syntax.{w16}
use mir.Val.{SFits, to_z}
use mir.ValLaws.{to_z-Fits}
use Rattle.wrap.specs.Wrap.{modulo, low16, low32}
use Rattle.wrap.proofs.Integers.{abs_fits}
use Rattle.wrap.proofs.Modulo.{modulo_lt}
use Rattle.wrap.proofs.Patterns.{read_low}
use Rattle.word.specs.Table.{table}
use Rattle.word.specs.Bytes.{be, be64, byte_of}
use Rattle.word.specs.Word.{field}
use Rattle.word.proofs.Tables.{length_table, table_ext, table_of}
use Rattle.word.proofs.BytesLaws.{be_ext, be_lt_bits, length_put, put_at}
use Rattle.word.proofs.Writes.{written_other}
use Rattle.lms.specs.Predictor.{at}
use Rattle.lms.specs.declared.QoaLms.{QoaLms}
use Rattle.format.specs.Predictor.{signed_at, lms_at, four_word}
use Rattle.word.proofs.Fields.{AreBytes, Stored, at_each, be_field, joined, stored_field}
use Rattle.lms.specs.Parts.{HistoryFits, WeightsWithin}
use Rattle.format.specs.Parts.{four_of, put_lms}
use Rattle.word.specs.Parts.{put}

-- ---- where a state is read: it is that of its 16 bytes

-- four numbers from a place on
abbrev pub four_at : List ℕ → ℕ → List ℤ
four_at bs p = table 4 (λ i. signed_at bs (p + 2 * i))

four_ext : (bs cs : List ℕ) (p q : ℕ) → ((i : ℕ) → i < 8 → get_or bs (p + i) 0 ≡ get_or cs (q + i) 0) → four_at bs p ≡ four_at cs q
four_ext bs cs p q same =
    table_ext 4 (λ i. signed_at bs (p + 2 * i)) (λ i. signed_at cs (q + 2 * i))
    (λ i h. ap (to_z w16) (be_ext 2 bs cs (p + 2 * i) (q + 2 * i) (λ j l. rw (add_assoc p (2 * i) j, add_assoc q (2 * i) j) (same (2 * i + j) (omega arith)))))

pub lms_ext : (bs cs : List ℕ) (p q : ℕ) → ((i : ℕ) → i < 16 → get_or bs (p + i) 0 ≡ get_or cs (q + i) 0) → lms_at bs p ≡ lms_at cs q
unfolding lms_at
lms_ext bs cs p q same =
    let history = four_ext bs cs p q (λ i h. same i (omega arith)) in
    let weights = four_ext bs cs (p + 8) (q + 8) (λ i h. rw (add_assoc p 8 i, add_assoc q 8 i) (same (8 + i) (omega arith))) in
    λ j. record { history = history j; weights = weights j }

pub lms_drop : (k : ℕ) (bs : List ℕ) (p : ℕ) → lms_at (drop k bs) p ≡ lms_at bs (k + p)
lms_drop k bs p = lms_ext (drop k bs) bs p (k + p) (λ i h. rw (get_or-drop, add_assoc))

pub lms_take : (k : ℕ) (bs : List ℕ) (p : ℕ) → p + 16 ≤ k → lms_at (take k bs) p ≡ lms_at bs p
lms_take k bs p room = lms_ext (take k bs) bs p p (λ i h. get_or-take k bs (p + i) 0 (omega arith))

pub lms_append : (xs ys : List ℕ) (p : ℕ) → p + 16 ≤ length xs → lms_at (xs ++ ys) p ≡ lms_at xs p
lms_append xs ys p room = lms_ext (xs ++ ys) xs p p (λ i h. get_or-append xs ys 0 (p + i) (omega arith))

pub lms_past : (xs ys : List ℕ) (p : ℕ) → lms_at (xs ++ ys) (length xs + p) ≡ lms_at ys p
lms_past xs ys p = lms_ext (xs ++ ys) ys (length xs + p) p (λ i h. rw add_assoc (get_or-append-add xs ys (p + i) 0))

-- ---- its numbers are of 16 bits, four and four

module _ (bs : List ℕ) (p : ℕ) (bytes : AreBytes bs) where
  signed_fits : (q : ℕ) → SFits w16 (signed_at bs q)
  signed_fits q = to_z-Fits w16 (be 2 bs q) (record { fits = be_lt_bits 2 bs q bytes })

  pub read_fits : HistoryFits (lms_at bs p)
  unfolding lms_at
  read_fits = record { fit = at_each (SFits w16) 4 (λ i. signed_at bs (p + 2 * i)) (pos 0) (record { sfits = lit< tt }) (λ i. signed_fits (p + 2 * i)) }

  pub read_within : WeightsWithin 32768 (lms_at bs p)
  unfolding lms_at
  read_within = record { bound = at_each (λ z. nat_abs z ≤ 32768) 4 (λ i. signed_at bs (p + 8 + 2 * i)) (pos 0) (lit≤ tt) (λ i. abs_fits (signed_fits (p + 8 + 2 * i))) }

pub read_lengths : (bs : List ℕ) (p : ℕ) → (length (lms_at bs p).history ≡ 4) × (length (lms_at bs p).weights ≡ 4)
unfolding lms_at
read_lengths bs p = (length_table 4 (λ i. signed_at bs (p + 2 * i)), length_table 4 (λ i. signed_at bs (p + 8 + 2 * i)))

-- ---- four numbers and their word

-- number i has 2i bytes before it and 6 - 2i after it
four_index : (i : ℕ) → i < 4 → (2 * i + 2 + (6 - 2 * i) ≡ 8) × (8 * (6 - 2 * i) ≡ 48 - 16 * i)
four_index i h = omega arith

-- the numbers of the word of 8 bytes are the numbers in the bytes
pub four_of_bytes : (bs : List ℕ) (p : ℕ) → AreBytes bs → four_of (be64 bs p) ≡ four_at bs p
unfolding four_of
four_of_bytes bs p bytes =
    table_ext 4 (λ i. to_z w16 (field 16 (48 - 16 * i) (be64 bs p))) (λ i. signed_at bs (p + 2 * i))
    (λ i h. ap (to_z w16) (rw ((four_index i h).0, (four_index i h).1) at (be_field (2 * i) 2 (6 - 2 * i) bs p bytes)))

four_stored : (bs : List ℕ) (p w : ℕ) → w < 2 ^ 64 → Stored 8 w bs p → four_at bs p ≡ four_of w
unfolding four_of
four_stored bs p w small stored =
    table_ext 4 (λ i. signed_at bs (p + 2 * i)) (λ i. to_z w16 (field 16 (48 - 16 * i) w))
    (λ i h. let f = four_index i h in ap (to_z w16) (rw f.1 at (stored_field (2 * i) 2 (6 - 2 * i) w bs p (rw f.0 stored) (rw f.0 small))))

low_small : (z : ℤ) → low16 z < 2 ^ 16
low_small z = modulo_lt 0xffff z

lows : (xs : List ℤ) → (low16 (at xs 0) < 2 ^ 16) × (low16 (at xs 1) < 2 ^ 16) × (low16 (at xs 2) < 2 ^ 16) × (low16 (at xs 3) < 2 ^ 16)
lows xs = (low_small (at xs 0), low_small (at xs 1), low_small (at xs 2), low_small (at xs 3))

pub four_small : (xs : List ℤ) → four_word xs < 2 ^ 64
unfolding four_word
four_small xs = omega (arith, lows xs)

-- each field of the word has its number's low 16 bits
four_field : (xs : List ℤ) (i : ℕ) → i < 4 → field 16 (48 - 16 * i) (four_word xs) ≡ low16 (at xs i)
unfolding four_word
four_field xs zero h = omega (arith, lows xs)
four_field xs (suc zero) h = omega (arith, lows xs)
four_field xs (suc (suc zero)) h = omega (arith, lows xs)
four_field xs (suc (suc (suc zero))) h = omega (arith, lows xs)
four_field xs (suc (suc (suc (suc i)))) h = absurd (omega arith)

-- what is read of a word of numbers: of each the number of its low 16 bits
pub four_low : (xs : List ℤ) → four_of (four_word xs) ≡ table 4 (λ i. to_z w16 (low16 (at xs i)))
unfolding four_of
four_low xs = table_ext 4 (λ i. to_z w16 (field 16 (48 - 16 * i) (four_word xs))) (λ i. to_z w16 (low16 (at xs i))) (λ i h. ap (to_z w16) (four_field xs i h))

-- which is the number itself where it is one of 16 bits
pub four_back : (xs : List ℤ) → length xs ≡ 4 → ((i : ℕ) → SFits w16 (at xs i)) → four_of (four_word xs) ≡ xs
four_back xs long fit =
    four_low xs
    ∙ table_ext 4 (λ i. to_z w16 (low16 (at xs i))) (λ i. at xs i) (λ i h. read_low w16 0xffff refl (lit≤ tt) (fit i))
    ∙ table_of 4 xs (pos 0) long

-- four numbers' low 16 bits, or-ed at their places
pub four_joined : (xs : List ℤ) (a b c d : ℕ) → a ≡ low16 (at xs 0) → b ≡ low16 (at xs 1) → c ≡ low16 (at xs 2) → d ≡ low16 (at xs 3)
    → bit_or (a * 2 ^ 48 % 2 ^ 64) (bit_or (b * 2 ^ 32 % 2 ^ 64) (bit_or (c * 2 ^ 16 % 2 ^ 64) d)) ≡ four_word xs
unfolding four_word
four_joined xs a b c d ea eb ec ed =
    rw (ea, eb, ec, ed)
    (joined 48 (low16 (at xs 0)) (low16 (at xs 1)) (low16 (at xs 2)) (low16 (at xs 3)) (lit≤ tt) (lit≤ tt)
    (low_small (at xs 0)) (low_small (at xs 1)) (low_small (at xs 2)) (low_small (at xs 3)))

-- the low 16 of the low 32 bits
pub low_low : (z : ℤ) → low32 z % 2 ^ 16 ≡ low16 z
unfolding modulo
low_low (pos n) = omega arith
low_low (negsuc n) = omega arith

-- ---- a stored state is read back

pub length_put_lms : (out : List ℕ) (p : ℕ) (lms : QoaLms) → length (put_lms out p lms) ≡ length out
unfolding put_lms
length_put_lms out p lms = rw (length_put, length_put)

-- elsewhere a byte is as it was
pub put_lms_other : (out : List ℕ) (p : ℕ) (lms : QoaLms) (i : ℕ) → (i < p) ⊎ (p + 16 ≤ i) → get_or (put_lms out p lms) i 0 ≡ get_or out i 0
unfolding put_lms
put_lms_other out p lms i apart =
    let h = four_word lms.history in
    let w = four_word lms.weights in
    let away : (q j : ℕ) → p ≤ q → q ≤ p + 8 → j < 8 → i ≢ q + j * 1 =
    λ q j low high l e. ⊎_elim (λ before. omega (arith, mul-one j)) (λ behind. omega (arith, mul-one j)) apart in
    written_other (byte_of 8 w) (put 8 out p h) (p + 8) 1 8 i 0 (λ j l. away (p + 8) j (omega arith) (omega arith) l)
    ∙ written_other (byte_of 8 h) out p 1 8 i 0 (λ j l. away p j (omega arith) (omega arith) l)

-- any state: the low 16 bits of its numbers
pub lms_of_put_low : (out : List ℕ) (p : ℕ) (lms : QoaLms) → p + 16 ≤ length out
    → lms_at (put_lms out p lms) p ≡ record { history = four_of (four_word lms.history); weights = four_of (four_word lms.weights) }
unfolding lms_at put_lms
lms_of_put_low out p lms room =
    let h = four_word lms.history in
    let w = four_word lms.weights in
    let one = put 8 out p h in
    let first : Stored 8 h (put 8 one (p + 8) w) p =
    λ i l. written_other (byte_of 8 w) one (p + 8) 1 8 (p + i) 0 (λ j k e. omega (arith, mul-one j)) ∙ put_at 8 out p h i l (omega arith) in
    let second : Stored 8 w (put 8 one (p + 8) w) (p + 8) = λ i l. put_at 8 one (p + 8) w i l (rw length_put (omega arith)) in
    let history = four_stored (put 8 one (p + 8) w) p h (four_small lms.history) first in
    let weights = four_stored (put 8 one (p + 8) w) (p + 8) w (four_small lms.weights) second in
    λ j. record { history = history j; weights = weights j }

-- a state of 16-bit numbers
pub record Storable (lms : QoaLms) : Type 0 where
  pub four_history : length lms.history ≡ 4
  pub four_weights : length lms.weights ≡ 4
  pub history_fit : HistoryFits lms
  pub weights_fit : (i : ℕ) → SFits w16 (at lms.weights i)

pub lms_of_put : (out : List ℕ) (p : ℕ) (lms : QoaLms) → p + 16 ≤ length out → Storable lms → lms_at (put_lms out p lms) p ≡ lms
lms_of_put out p lms room s =
    let history = four_back lms.history s.four_history s.history_fit.fit in
    let weights = four_back lms.weights s.four_weights s.weights_fit in
    lms_of_put_low out p lms room ∙ (λ j. record { history = history j; weights = weights j })
