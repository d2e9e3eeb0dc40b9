-- `block::decoding::write_pending` meets its contract. The invariant: the first `i` samples are stored. Assumes nothing.
use mathlib.Core.Path.{◌≡◌, refl, sym, ap, ◌∙◌}
use Prim.Native.Nat.{◌+◌, ◌*◌}
use native.Mathlib.Numerals.{add-one}
use native.Mathlib.Omega.{arith}
use lib.IntN.{ℤ, pos}
use lib.ListN.{get_or, length}
use mathlib.Core.Bool.{cond}
use Rattle.block.proofs.Holding.{held_below, held_from, sample_held}
use mir.Facts.{to_z-of_z}
use mir.Syntax.{w16}
use mir.Val.{SFits}
use Rattle.wrap.proofs.Elements.{element}
use Rattle.wrap.specs.Wrap.{low16}
use Rattle.wrap.proofs.Integers.{returned}
use Rattle.word.proofs.BytesLaws.{length_bytes}
use Rattle.format.specs.Format.{max_channels}
use Rattle.body.specs.Laid.{laid}
use Rattle.body.proofs.Laids.{length_blocks, next_block}
use Rattle.refusal.proofs.Lents.{over_nil, over_put}
use Rattle.block.proofs.decoding.write_pending.Invariants.{stored}
use Rattle.block.proofs.decoding.write_pending.Goals as goal
use Rattle.block.proofs.decoding.write_pending.Goals.{At-loop-i, then-next-i, else-next-i}

-- as long as it was
long : (c : At-loop-i) → length c.loop-i.block ≡ length c.args.block.now
long c =
    let args = c.args in
    rw c.loop-i.invariant (length_blocks 2 (stored args.pending.now args.next args.end) (λ k. length_bytes 2 _) args.block.now (32 + 32 * max_channels) c.loop-i.i (omega arith))

pub loop-i-init : goal.loop-i-init
unfolding laid
loop-i-init c = sym (over_nil _ _)

pub loop-i-preserved : goal.loop-i-preserved
loop-i-preserved c =
    let args = c.args in
    let i = c.loop-i.i in
    let item : ℤ = get_or args.pending.now i (pos 0) in
    let same : cond c.if-next-i.held item (pos 0) ≡ sample_held args.pending.now args.next args.end i = elim c.if-next-i.branch [ then-next-i w ↦ held_from item args.next args.end i c.if-next-i.held w.if-next-i.true w.held-is | else-next-i w ↦ held_below item args.next args.end i c.if-next-i.held w.if-next-i.false w.held-is ] in
    let fits : SFits w16 item = search element in
    let now : c.held-pending.result ≡ sample_held args.pending.now args.next args.end i = c.held-pending.ensures ∙ rw (to_z-of_z fits) same in
    rw (c.write_be.ensures, c.pattern.ensures ∙ ap low16 (returned w16 c.held-pending.result c.held-pending.type_inv now), add-one, over_put c.loop-i.block (32 + 32 * max_channels + 2 * i) 2 _ (omega (arith, long (goal.at.loop-i-preserved c).At-loop-i)), c.loop-i.invariant)
    (next_block 2 (stored args.pending.now args.next args.end) (λ k. length_bytes 2 _) args.block.now (32 + 32 * max_channels) i (32 + 32 * max_channels + 2 * i) refl (omega arith))
