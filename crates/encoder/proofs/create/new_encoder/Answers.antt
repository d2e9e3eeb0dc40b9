-- `encoder::create::new_encoder` meets its contract, by those of its parts. Assumes nothing.
use mathlib.Core.Path.{◌≡◌, ap, sym, ◌∙◌}
use mathlib.Core.Option.{none}
use Rattle.refusal.specs.Rules.{first_of}
use Rattle.refusal.specs.Refusals.{told_refusal}
use Rattle.encoder.specs.Encoder.{create_rules, zero_encoder}
use Rattle.encoder.proofs.Done.{creatable, create_refused}
use Rattle.encoder.proofs.create.new_encoder.Goals as goal
use Rattle.encoder.proofs.create.new_encoder.Goals.{In-Ok}

-- no rule fires
passed : (c : In-Ok) → first_of (create_rules c.args.channels c.args.rate c.args.total) ≡ none
passed c = sym c.check_create.ensures ∙ ap told_refusal c.in-Ok.is

pub fresh_encoder-requires : goal.fresh_encoder-requires
fresh_encoder-requires c = (creatable _ _ _ (passed c)).few_channels

pub returns-in-Err : goal.returns-in-Err
unfolding zero_encoder
returns-in-Err c =
    create_refused _ _ _ _ _ (sym c.check_create.ensures ∙ ap told_refusal c.in-Err.is) (ap told_refusal c.refused.ensures.0) c.refused.ensures.1
