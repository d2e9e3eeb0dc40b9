-- `block::decoding::read_pending` meets its contract. The invariant: the samples passed are stored. Assumes nothing.
use mathlib.Core.Path.{◌≡◌}
use Prim.Native.Nat.{◌+◌, ◌-◌, suc}
use native.Mathlib.Nat.{mul-one}
use native.Mathlib.Omega.{arith}
use lib.IntN.{pos}
use mir.Syntax.{w16}
use Rattle.wrap.proofs.Integers.{returned}
use Rattle.word.specs.Parts.{written}
use Rattle.block.specs.DecoderBlock.{sample_in}
use Rattle.block.proofs.Holding.{stored_range}
use Rattle.block.proofs.decoding.read_pending.Goals as goal

pub loop-i-init : goal.loop-i-init
unfolding written
loop-i-init c =
    let none : c.args.next - c.args.next ≡ 0 = omega arith in
    (omega arith, omega arith, rw none)

pub loop-i-preserved : goal.loop-i-preserved
unfolding written
loop-i-preserved c =
    let l = c.loop-i in
    let args = c.args in
    let grows : l.i + 1 - args.next ≡ suc (l.i - args.next) = omega arith in
    let here : args.next + (l.i - args.next) ≡ l.i = omega arith in
    (omega arith, omega arith, rw (grows, mul-one, here, l.invariant.2, returned w16 c.signed.result c.signed.type_inv c.signed.ensures, c.read_be.ensures))

pub returns : goal.returns
returns c =
    let l = c.loop-i in
    let args = c.args in
    let done : l.i - args.next ≡ args.end - args.next = omega arith in
    rw (l.invariant.2, done) (stored_range (λ k. sample_in args.block.now (args.next + k)) _ args.next (args.end - args.next) (pos 0) (λ i h. omega arith))
