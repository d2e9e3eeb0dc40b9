-- `qoa::linked::qoa_encode_all` meets its contract. Assumes nothing.
use mathlib.Core.Path.{sym, subst}
use native.Mathlib.Omega.{arith}
use lib.ListN.{length}
use Rattle.encoder.specs.Calls.{Told}
use Rattle.oneshot.specs.Parts.{Small}
use Rattle.qoa.proofs.Encoding.{encoded_small}
use Rattle.qoa.proofs.linked.qoa_encode_all.Goals as goal

-- what the call told is small
pub encoded-requires : goal.encoded-requires
encoded-requires c =
    let args = c.args in
    subst (λ (t : Told). Small t) (sym c.encode_all.ensures.told)
    (encoded_small args.channels args.rate args.total args.samples.now (length args.out.now) (omega arith))
