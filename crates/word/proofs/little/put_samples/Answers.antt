-- `word::little::put_samples` meets its contract. The invariant: the bytes of the samples passed, and then out as it was. Assumes nothing.
use Rattle.std.proofs.Common.{pos, refl, ◌∙◌, get_or, rules, arith}
use mir.Syntax.{w16}
use mir.Val.{SFits}
use Rattle.word.specs.Little.{le_bytes}
use Rattle.word.proofs.LittleLaws.{sample_bytes, sample_more}
use Rattle.word.proofs.little.put_samples.Goals as goal

pub loop-i-init : goal.loop-i-init
unfolding le_bytes
loop-i-init c = refl

pub loop-i-preserved : goal.loop-i-preserved
loop-i-preserved c =
    let l = c.loop-i in
    let samples = c.args.samples.now in
    let fits : SFits w16 (get_or samples l.i (pos 0)) = search rules in
    let bytes = c.copy_from_slice.ensures.after ∙ c.to_le_bytes.ensures ∙ sample_bytes _ fits in
    rw l.invariant (sample_more samples l.i c.args.out.now _ _ (omega arith) (omega arith) (omega arith) bytes)
