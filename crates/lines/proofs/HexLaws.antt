-- A hex digit and its value say the same, and the places of a byte's digits. Assumes nothing.
use mathlib.Core.Path.{◌≡◌, ap, sym, ◌∙◌, refl}
use mathlib.Core.List.{List}
use Prim.Native.Nat.{ℕ, ◌+◌, ◌*◌, ◌/◌, ◌%◌, ◌<◌, ◌-◌, ◌≤◌}
use native.Mathlib.Omega.{arith}
use lib.ListN.{get_or, set}
use Rattle.std.proofs.lemmas.Bool.Decides.{nat_tests}
use Rattle.std.specs.Option.{unwrap_or}
use Rattle.word.specs.Parts.{written}
use Rattle.lines.proofs.OutputLaws.{two_more}
use Rattle.io.specs.Digits.{hex_digit_ascii}
use Rattle.lines.specs.Hex.{digit_of, digit_value, hex_value}
use mathlib.Core.Bool.{Bool, true, false}
use borrow.Author.Tests.{lt-ltb, le-ltb, le-leb, lt-leb, ltb-true, ltb-false}
use lib.Dec.{ltb}

-- a value below ten, and one from ten on
pub glyph_low : (v : ℕ) → v < 10 → hex_digit_ascii v ≡ 48 + v
glyph_low v h = simp (lt-ltb v 10)

pub glyph_high : (v : ℕ) → 10 ≤ v → hex_digit_ascii v ≡ 87 + v
glyph_high v h = simp (le-ltb v 10)

-- the five cases of a byte
pub value_under : (b : ℕ) → b < 48 → hex_value b ≡ 16
unfolding hex_value
value_under b h = simp (lt-ltb b 48)

pub value_low : (b : ℕ) → 48 ≤ b → b ≤ 57 → hex_value b ≡ b - 48
unfolding hex_value
value_low b g h = simp (le-ltb b 48, le-leb b 57)

module _ (b : ℕ) (g : 57 < b) where
  over : ltb b 48 ≡ false
  over = le-ltb b 48 (omega arith)

  pub value_between : b < 97 → hex_value b ≡ 16
  unfolding hex_value
  value_between h = simp (over, lt-leb b 57, lt-ltb b 97)

  pub value_high : 97 ≤ b → b ≤ 102 → hex_value b ≡ b - 87
  unfolding hex_value
  value_high k h = simp (over, lt-leb b 57, le-ltb b 97, le-leb b 102)

  pub value_over : 102 < b → hex_value b ≡ 16
  unfolding hex_value
  value_over h = simp (over, lt-leb b 57, le-ltb b 97 (omega arith), lt-leb b 102)

-- the value of a value's digit, by the value's size
value_of : (v : ℕ) (low : Bool) → v < 16 → ltb v 10 ≡ low → hex_value (hex_digit_ascii v) ≡ v
value_of v true h t =
    let small : v < 10 = ltb-true v 10 t in
    ap hex_value (glyph_low v small) ∙ (value_low (48 + v) (omega arith) (omega arith) ∙ omega arith)
value_of v false h t =
    let large : 10 ≤ v = ltb-false v 10 t in
    ap hex_value (glyph_high v large) ∙ (value_high (87 + v) (omega arith) (omega arith) (omega arith) ∙ omega arith)

-- the value of a value's digit
pub value_of_digit : (v : ℕ) → v < 16 → hex_value (hex_digit_ascii v) ≡ v
value_of_digit v h = value_of v (ltb v 10) h refl

-- a byte that is no digit counts as 0
pub value_or_none : (b : ℕ) → unwrap_or (digit_value b) 0 ≡ hex_value b % 16
unfolding hex_value
value_or_none b = grind (arith, nat_tests)

-- the digits of the byte at i stand at i * 2 and after it
pub digit_first : (bytes : List ℕ) (i : ℕ) → digit_of bytes (i * 2) ≡ hex_digit_ascii (get_or bytes i 0 / 16)
unfolding digit_of
digit_first bytes i =
    let even : i * 2 % 2 ≡ 0 = omega arith in
    let place : i * 2 / 2 ≡ i = omega arith in
    simp (even, place)

pub digit_second : (bytes : List ℕ) (i : ℕ) → digit_of bytes (i * 2 + 1) ≡ hex_digit_ascii (get_or bytes i 0 % 16)
unfolding digit_of
digit_second bytes i =
    let odd : (i * 2 + 1) % 2 ≡ 1 = omega arith in
    let place : (i * 2 + 1) / 2 ≡ i = omega arith in
    simp (odd, place)

-- the two digits of the byte at k, after those of the k bytes before it
pub pair_more : (bytes out o : List ℕ) (at k b : ℕ) → get_or bytes k 0 ≡ b → o ≡ written (digit_of bytes) out at 1 (k * 2)
    → set (set o (at + k * 2) (hex_digit_ascii (b / 16))) (at + k * 2 + 1) (hex_digit_ascii (b % 16)) ≡ written (digit_of bytes) out at 1 ((k + 1) * 2)
pair_more bytes out o at k b e w =
    let first : hex_digit_ascii (b / 16) ≡ digit_of bytes (k * 2) = ap (λ (x : ℕ). hex_digit_ascii (x / 16)) (sym e) ∙ sym (digit_first bytes k) in
    let second : hex_digit_ascii (b % 16) ≡ digit_of bytes (k * 2 + 1) = ap (λ (x : ℕ). hex_digit_ascii (x % 16)) (sym e) ∙ sym (digit_second bytes k) in
    let count : k * 2 + 2 ≡ (k + 1) * 2 = omega arith in
    (λ i. set (set (w i) (at + k * 2) (first i)) (at + k * 2 + 1) (second i))
    ∙ (two_more (digit_of bytes) out at (k * 2) ∙ ap (written (digit_of bytes) out at 1) count)
