-- `format::frame::header_fields` meets its contract: a shift is a quotient, and a mask of k ones a remainder by 2 ^ k. Assumes nothing.
use Prim.Native.Nat.{◌/◌, ◌^◌}
use native.Mathlib.Nat.{div-one}
use lib.Bits.{and_mask}
use Rattle.format.specs.Parts.{header_fields}
use Rattle.format.proofs.frame.header_fields.Goals as goal

pub returns : goal.returns
unfolding header_fields
returns c = let w = c.args.word in cc (and_mask (w / 2 ^ 56) 8, and_mask (w / 2 ^ 32) 24, and_mask (w / 2 ^ 16) 16, and_mask w 16, div-one w)
