-- `word::read_number` meets its contract. The loop's invariant: `word` is the number of the bytes passed, and has no more than their bits.
-- Assumes nothing.
use mathlib.Core.Path.{◌≡◌, refl, ap, ◌∙◌}
use mathlib.Core.List.{List}
use Prim.Native.Nat.{ℕ, ◌+◌, ◌*◌, ◌-◌, ◌<◌, ◌≤◌}
use native.Mathlib.Nat.{lt_of_lt_of_le}
use native.Mathlib.Numerals.{add-one}
use native.Mathlib.Omega.{arith}
use lib.Dec.{lit<}
use lib.Pow.{pow_mono}
use lib.ListN.{length, take, drop, get_or, length-take, length-drop}
use lib.Seq.{get_or-take, get_or-drop}
use Rattle.word.specs.Bytes.{be}
use Rattle.word.proofs.Push.{push_lt}
use Rattle.word.proofs.read_number.Goals as goal

-- how many bytes are passed, and the byte that is read
long : (bs : List ℕ) (at n : ℕ) → at + n ≤ length bs → length (take (at + n - at) (drop at bs)) ≡ n
long bs at n h = simp (length-take, length-drop) (omega arith)

byte : (bs : List ℕ) (at n i : ℕ) → i < n → get_or (take (at + n - at) (drop at bs)) i 0 ≡ get_or bs (at + i) 0
byte bs at n i h = get_or-take (at + n - at) (drop at bs) i 0 (omega arith) ∙ get_or-drop at bs i 0

pub loop-byte-init : goal.loop-byte-init
unfolding be
loop-byte-init c = (refl, lit< tt)

pub push_byte-word-requires : goal.push_byte-word-requires
push_byte-word-requires c =
    let a = c.args in
    let l = c.loop-byte in
    lt_of_lt_of_le l.invariant.1 (pow_mono {j = 56} (omega (arith, long a.bytes.now a.at a.n (omega arith))))

pub loop-byte-preserved : goal.loop-byte-preserved
unfolding be
loop-byte-preserved c =
    let l = c.loop-byte in
    let a = c.args in
    let within : l.byte-index < a.n = omega (arith, long a.bytes.now a.at a.n (omega arith)) in
    let said : c.push_byte-word.result ≡ l.word * 256 + get_or a.bytes.now (a.at + l.byte-index) 0 = c.push_byte-word.ensures ∙ ap (λ (b : ℕ). l.word * 256 + b) (byte a.bytes.now a.at a.n l.byte-index within) in
    let small = (c.type_inv.bytes (a.at + l.byte-index)).fits in
    let wider : 8 * l.byte-index + 8 ≡ 8 * (l.byte-index + 1) = omega arith in
    (rw (add-one, said, l.invariant.0), rw (said, ← wider) (push_lt (8 * l.byte-index) 8 l.invariant.1 small))
