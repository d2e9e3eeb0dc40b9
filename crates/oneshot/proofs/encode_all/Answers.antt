-- `oneshot::encode_all` meets its contract, by those of its parts. Assumes nothing.
use mathlib.Core.Path.{refl, ap, ◌∙◌}
use Rattle.std.specs.Prelude.{Err}
use Rattle.std.proofs.lemmas.Result.{err_from_is_err_and}
use Rattle.refusal.specs.Refusals.{told_refusal}
use Rattle.encoder.specs.Calls.{told_encode}
use Rattle.encoder.specs.declared.EncodeRefusal.{EncodeRefusal}
use Rattle.encoder.proofs.Done.{was_created, was_refused}
use Rattle.oneshot.proofs.Ends.{all_done, all_refused}
use Rattle.oneshot.proofs.encode_all.Goals as goal

pub returns-in_err-created : goal.returns-in_err-created
returns-in_err-created c =
    let exit = err_from_is_err_and c.from_residual.result c.from_residual.ensures.1 in
    all_refused _ _ _ _ _ _ _ _ (was_refused _ _ _ _ c.new_encoder-created.ensures _ (ap told_refusal c.in_err-created.was)) (ap told_encode (exit.1 ∙ ap (λ (e : EncodeRefusal). Err e) exit.2)) refl

pub returns : goal.returns
returns c =
    let new = was_created _ _ _ _ c.new_encoder-created.ensures (ap told_refusal c.in_ok-created.was) in
    all_done _ _ _ _ _ _ _ _ _ new.0 new.1 refl c.encode.ensures
