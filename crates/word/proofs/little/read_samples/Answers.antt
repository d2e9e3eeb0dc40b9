-- `word::little::read_samples` meets its contract. The loop's invariant: the samples passed are stored. Assumes nothing.
use Rattle.std.proofs.Common.{◌≡◌, ◌*◌, refl, sym, ◌∙◌, add-one}
use native.Mathlib.Nat.{mul-one, zero-add}
use mir.Syntax.{w16}
use mir.Val.{to_z, of_z}
use mir.Facts.{to_z-of_z}
use Rattle.wrap.proofs.Integers.{fits_of}
use Rattle.word.specs.Parts.{written}
use Rattle.word.specs.Little.{le_sample}
use Rattle.word.proofs.LittleLaws.{sample_of}
use Rattle.word.proofs.little.read_samples.Goals as goal

pub loop-i-init : goal.loop-i-init
unfolding written
loop-i-init c = refl

pub loop-i-preserved : goal.loop-i-preserved
unfolding written
loop-i-preserved c =
    let l = c.loop-i in
    let number : to_z w16 (of_z w16 c.from_le_bytes.result) ≡ le_sample c.args.bytes.now (l.i * 2) =
    to_z-of_z (fits_of w16 _ c.from_le_bytes.type_inv) ∙ c.from_le_bytes.ensures ∙ sym (sample_of _ _) in
    rw (number, l.invariant, add-one, mul-one, zero-add)
