-- `encoder::frame::encode_frame` meets its contract, by those of its parts. Assumes nothing.
use mathlib.Core.Path.{refl, ap, sym, ◌∙◌}
use Rattle.refusal.specs.Refusals.{told_refusal}
use Rattle.std.specs.Prelude.{Err}
use Rattle.encoder.specs.declared.EncodeRefusal.{EncodeRefusal}
use Rattle.encoder.specs.Calls.{told_encode}
use Rattle.encoder.proofs.Done.{frame_refused}
use Rattle.encoder.proofs.frame.encode_frame.Goals as goal

pub returns-in-Err : goal.returns-in-Err
returns-in-Err c = frame_refused _ _ _ _ _ _ (sym c.check_frame.ensures ∙ ap told_refusal c.in-Err.is) (ap told_encode (c.refused.ensures.0 ∙ ap (λ (e : EncodeRefusal). Err e) c.from.ensures)) refl c.refused.ensures.1
