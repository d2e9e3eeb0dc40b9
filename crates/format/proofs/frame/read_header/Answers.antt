-- `format::frame::read_header` meets its contract. Assumes nothing.
use mathlib.Core.Path.{ap, ◌∙◌}
use Rattle.format.specs.Parts.{header_fields}
use Rattle.format.proofs.Headers.{fields_of_bytes}
use Rattle.format.proofs.frame.read_header.Goals as goal

pub returns : goal.returns
returns c =
    c.header_fields.ensures ∙ ap header_fields c.read_be.ensures ∙ fields_of_bytes _ _ (λ i. (c.type_inv.bytes i).fits)
