-- The contract settles its call: any two answers that it permits have the same count, samples, bytes and place. Assumes nothing.
use Prim.Native.Nat.{ℕ}
use mathlib.Core.Path.{◌≡◌, sym, ◌∙◌}
use mathlib.Core.List.{List}
use lib.IntN.{ℤ}
use Rattle.frame_samples.specs.Blocks.{BlockDone}
use Rattle.frame_samples.specs.declared.InFrame.{InFrame}
use Rattle.frame_samples.specs.declared.NextBlock.{NextBlock}

pub next_block_settled : (f : List ℕ) (p : InFrame) (block : List ℤ) (bytes : List ℕ) (r s : NextBlock) (xs ys : List ℤ) (us vs : List ℕ)
    → BlockDone f p block bytes r xs us → BlockDone f p block bytes s ys vs
    → (r.count ≡ s.count) × (r.place.done ≡ s.place.done) × (xs ≡ ys) × (us ≡ vs)
next_block_settled f p block bytes r s xs ys us vs x y =
    (x.count ∙ sym y.count, x.done ∙ sym y.done, x.samples ∙ sym y.samples, x.written ∙ sym y.written)
