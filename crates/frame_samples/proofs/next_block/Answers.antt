-- `frame_samples::next_block` meets its contract. Assumes nothing.
use mathlib.Core.Path.{◌≡◌, ap, ◌∙◌}
use mathlib.Core.List.{List}
use Prim.Native.Nat.{ℕ, ◌*◌, ◌≤◌, min}
use native.Mathlib.Nat.{mul-le-mul}
use native.Mathlib.Omega.{arith}
use borrow.Author.Rules.{rules}
use lib.ListN.{length}
use Rattle.word.proofs.Fields.{AreBytes}
use Rattle.format.proofs.Headers.{header_small}
use Rattle.file.specs.Frame.{frame_samples}
use Rattle.state.specs.View.{total, view}
use Rattle.into.proofs.Sound.{sound}
use Rattle.frame_samples.proofs.Entering.{length_samples}
use Rattle.frame_samples.proofs.Going.{block_done}
use Rattle.frame_samples.proofs.next_block.Goals as goal
use Rattle.frame_samples.proofs.next_block.Goals.{After-min-count, Start}

pub samples_left-requires : goal.samples_left-requires
samples_left-requires c =
    let d = sound c.args.p.decoder _ c.requires.after.passes in
    (d.in_order, omega (arith, d.one_group, d.few_channels))

-- a frame has few samples, by the fields of its header
few_samples : (f : List ℕ) → AreBytes f → length (frame_samples f) ≤ 65535 * 255
few_samples f bytes =
    let small = header_small f 0 bytes in
    rw (length_samples f) (mul-le-mul {n₂ = 65535} {m₂ = 255} (omega (arith, small.samples_small)) (omega (arith, small.channels_small)))

sixteen_bits : (c : Start) → c.args.p.decoder.frame.samples ≤ 65535
sixteen_bits c = search rules

-- the count
count_is : (c : After-min-count) → c.min-count.result ≡ min (length c.args.block.now) (total (view c.args.p.decoder))
count_is c = c.min-count.ensures ∙ ap (min (length c.args.block.now)) c.samples_left.ensures

pub overflow_add-result : goal.overflow_add-result
overflow_add-result c =
    let at = goal.at.overflow_add-result c in
    let bytes : AreBytes c.args.frame.now = λ i. search rules in
    omega (arith, count_is at.After-min-count, c.requires.after.left, few_samples c.args.frame.now bytes)

pub returns : goal.returns
returns c =
    let at = goal.at.returns c in
    block_done c.args.frame.now c.args.p c.args.block.now c.args.bytes.now c.decode_into-made.result _ _ c.min-count.result
    c.requires.after (sixteen_bits at.Start) (count_is at.After-min-count) c.decode_into-made.ensures (search rules)
