-- `qoa::linked::qoa_decode_frames` meets its contract. Assumes nothing.
use mathlib.Core.Path.{sym, ◌∙◌}
use native.Mathlib.Omega.{arith}
use lib.ListN.{length}
use Rattle.codes.proofs.Maps.{told_small}
use Rattle.qoa.proofs.Fitting.{streamed_fits}
use Rattle.qoa.proofs.linked.qoa_decode_frames.Goals as goal

pub told-requires : goal.told-requires
told-requires c = told_small _ (λ n e. let fits = streamed_fits (length c.args.out.now) c.args.bytes.now n (sym c.decode_frames.ensures.answer ∙ e) in omega arith)
