-- `word::write_number` meets its contract. The loop's invariant: the bytes passed are stored. Assumes nothing.
use mathlib.Core.Path.{◌≡◌, refl}
use Prim.Native.Nat.{ℕ, ◌+◌, ◌-◌}
use native.Mathlib.Numerals.{add-one}
use native.Mathlib.Nat.{mul-one, zero-add}
use native.Mathlib.Omega.{arith}
use lib.Bits.{and_mask}
use lib.ListN.{length-take, length-drop}
use Rattle.word.specs.Bytes.{byte_of}
use Rattle.word.specs.Parts.{written}
use Rattle.word.proofs.Writes.{written_part}
use Rattle.word.proofs.write_number.Goals as goal

pub loop-i-init : goal.loop-i-init
unfolding written
loop-i-init c = refl

pub loop-i-preserved : goal.loop-i-preserved
unfolding written byte_of
loop-i-preserved c = rw (add-one, mul-one, zero-add, c.loop-i.invariant, and_mask _ 8)

pub returns : goal.returns
returns c =
    let a = c.args in
    let l = c.loop-i in
    let part : a.at + a.n - a.at ≡ a.n = omega arith in
    let done : l.i ≡ a.n = omega (arith, length-take {A = ℕ}, length-drop {A = ℕ}) in
    rw (l.invariant, done) (written_part (byte_of a.n a.word) a.out.now a.at _ a.n part (omega arith))
