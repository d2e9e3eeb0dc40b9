-- `scale::Coding::quick_code` meets its contract, by the law that the code at a residual's place is that of its quotient.
-- Assumes nothing.
use Rattle.std.proofs.Common.{◌≡◌, ℕ, ◌+◌, ◌<◌, get_or, ℤ, pos, ap, ◌∙◌, ap₂, arith, rules, to_z-of_z, w32}
use Rattle.wrap.proofs.Integers.{returned}
use Rattle.scale.specs.Division.{shifted}
use Rattle.scale.specs.Parts.{half_of, quick_place}
use Rattle.scale.proofs.QuickRows.{code_there, reciprocal_entry, there_lt}
use Rattle.scale.proofs.quick.Coding.quick_code.Goals as goal
use Rattle.scale.proofs.quick.Coding.quick_code.Goals.{After-place}

-- the place, in the whole row
there : (c : After-place) → c.half.result + c.place.result ≡ half_of c.args.v + quick_place (shifted c.args.v c.args.sf)
there c =
    let v = to_z-of_z c.ranges.v in
    let r = returned w32 _ (search rules) (ap (λ l. get_or l c.args.sf (pos 0)) c.args.self.now.all_reciprocals ∙ reciprocal_entry c.args.sf c.requires) in
    ap₂ ◌+◌ (c.half.ensures ∙ ap half_of v) (c.place.ensures c.args.sf r ∙ ap (λ (x : ℤ). quick_place (shifted x c.args.sf)) v)

within : (c : After-place) → c.half.result + c.place.result < 34
within c = rw (there c) (there_lt _ _)

pub bounds-self-at : goal.bounds-self-at
bounds-self-at c = within (goal.at.bounds-self-at c).After-place

pub overflow_add-at : goal.overflow_add-at
overflow_add-at c = record { fits = omega (arith, within c) }

pub returns : goal.returns
returns c =
    ap₂ (λ l (i : ℕ). get_or l i 0) c.args.self.now.all_codes (there (goal.at.returns c).After-place) ∙ code_there c.args.v c.args.sf
