-- `linked_decoder::qoa_decoder_into` meets its contract. Assumes nothing.
use native.Mathlib.Omega.{arith}
use mathlib.Core.Path.{sym, ◌∙◌}
use lib.ListN.{length}
use mir.Syntax.{w64}
use Rattle.wrap.proofs.Integers.{returned}
use Rattle.refusal.specs.Lent.{laid_over}
use Rattle.block.proofs.Readable.{decoder_facts}
use Rattle.into.specs.Into.{into_rules}
use Rattle.codes.proofs.Maps.{told_same, told_small}
use Rattle.linked_decoder.proofs.Linking.{count_small, linked_kept, linked_refused, read_rules, unread}
use Rattle.linked_decoder.proofs.qoa_decoder_into.Goals as goal

pub returns-in_default : goal.returns-in_default
unfolding into_rules laid_over
returns-in_default c =
    let args = c.args in
    let none = unread args.state.now (length args.bytes.now) _ c.in_default.ensures in
    record { call = linked_refused args.state.now _ _ _ 8 _ none (returned w64 c.minus.result c.minus.type_inv c.minus.ensures); samples = rw none }

pub keep-requires : goal.keep-requires
keep-requires c = record { room = omega (arith, (decoder_facts _ c.in-Some.ensures.0).long); small = told_small _ (λ n e. let few = count_small _ (length c.args.out.now) _ n (sym e ∙ c.decode_into-done.ensures.told) in omega (arith, c.well_formed)) }

pub returns : goal.returns
returns c =
    let done = c.decode_into-done in
    record {
      call = rw (← c.in-Some.ensures.1) (linked_kept c.args.state.now _ _ (λ n. n) _ _ done.result (record { told = done.ensures.told; left = done.ensures.left }) _ (told_same _) c.in-Some.ensures.0 _ (returned w64 c.keep.result c.keep.type_inv c.keep.ensures.code) _ c.keep.ensures.block);
      samples = rw (← c.in-Some.ensures.1) (rw (read_rules c.args.state.now _ c.in-Some.ensures.0) done.ensures.stored);
    }
