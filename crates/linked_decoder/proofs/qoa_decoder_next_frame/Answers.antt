-- `linked_decoder::qoa_decoder_next_frame` meets its contract. Assumes nothing.
use native.Mathlib.Omega.{arith}
use lib.ListN.{length}
use mir.Syntax.{w64}
use Rattle.wrap.proofs.Integers.{returned}
use Rattle.block.proofs.Readable.{decoder_facts}
use Rattle.frames.specs.Frames.{next_rules}
use Rattle.codes.proofs.Maps.{map_small, told_map}
use Rattle.linked_decoder.specs.Numbers.{found_code}
use Rattle.linked_decoder.proofs.Linking.{linked_kept, linked_refused, unread}
use Rattle.linked_decoder.proofs.qoa_decoder_next_frame.Goals as goal

pub returns-in_default : goal.returns-in_default
unfolding next_rules
returns-in_default c =
    linked_refused c.args.state.now _ _ _ 8 _ (unread c.args.state.now (length c.args.bytes.now) _ c.in_default.ensures) (returned w64 c.minus.result c.minus.type_inv c.minus.ensures)

pub keep-requires : goal.keep-requires
keep-requires c = record { room = omega (arith, (decoder_facts _ c.in-Some.ensures.0).long); small = map_small _ c.next_frame-found.result.answer c.map.result (λ x y e k. k.1) c.map.ensures.cases }

pub returns : goal.returns
returns c =
    rw (← c.in-Some.ensures.1)
    (linked_kept c.args.state.now _ _ found_code _ _ _ c.next_frame-found.ensures _ (told_map _ found_code _ _ (λ x y k. k.0) c.map.ensures.cases) c.in-Some.ensures.0 _ (returned w64 c.keep.result c.keep.type_inv c.keep.ensures.code) _ c.keep.ensures.block)
