-- `whole::decode_need` meets its contract. Assumes nothing.
use mathlib.Core.Path.{sym, ap, ◌∙◌}
use native.Mathlib.Omega.{arith}
use Rattle.refusal.proofs.Told.{exit_told}
use Rattle.format.proofs.FileHeaders.{file_good}
use Rattle.whole.specs.Told.{summary_in}
use Rattle.whole.proofs.Surveying.{bad_head, good_head, too_long}
use Rattle.whole.proofs.decode_need.Goals as goal

pub returns-then-bytes-gt-QOA_MOST_BYTES : goal.returns-then-bytes-gt-QOA_MOST_BYTES
returns-then-bytes-gt-QOA_MOST_BYTES c = sym (ap summary_in (too_long c.args.bytes.now (omega arith)))

pub need_after-requires : goal.need_after-requires
need_after-requires c = let good = file_good c.args.bytes.now _ (sym c.in_ok-total.ensures) in omega arith

pub returns-in_err-total : goal.returns-in_err-total
returns-in_err-total c = exit_told _ _ c.from_residual.ensures.1 ∙ sym (ap summary_in (bad_head c.args.bytes.now (omega arith) _ (sym c.in_err-total.ensures)))

pub returns : goal.returns
returns c = c.need_after.ensures ∙ sym (ap summary_in (good_head c.args.bytes.now (omega arith) _ (sym c.in_ok-total.ensures)))
