-- `block::decoding::write_rest` meets its contract. Assumes nothing.
use native.Mathlib.Omega.{arith}
use mathlib.Core.Path.{ap, ◌∙◌}
use mathlib.Core.List.{List}
use Prim.Native.Nat.{ℕ, ◌%◌, ◌^◌}
use Rattle.refusal.specs.Rules.{good}
use Rattle.refusal.specs.Lent.{laid_over}
use Rattle.block.proofs.Layouts.{flag_byte, rest_low, rest_over}
use Rattle.block.proofs.decoding.write_rest.Goals as goal

pub returns : goal.returns
returns c =
    rw (c.write_be-4.ensures, c.from.ensures, flag_byte c.args.given, c.write_be-3.ensures, c.low_half-2.ensures, c.write_be-2.ensures, c.low_half.ensures, c.write_be.ensures)
    (rest_over c.args.block.now c.args.remaining (c.args.next % 2 ^ 16) (c.args.end % 2 ^ 16) c.args.given (omega arith)
    ∙ ap (λ (r : List ℕ). laid_over c.args.block.now 25 (good r)) (rest_low c.args.remaining c.args.next c.args.end c.args.given))
