-- `scale::QuickRow::quick_value` meets its contract: what stands at the place in a half stands at their sum in the row, and is the quotient's table value.
-- Assumes nothing.
use Rattle.std.proofs.Common.{◌≡◌, ℕ, ◌+◌, ◌<◌, ◌≤◌, length, get_or, ℤ, pos, ap, ◌∙◌, ap₂, arith, rules, lit≤, to_z-of_z, w16, w32}
use Rattle.wrap.proofs.Integers.{returned, widen_back}
use Rattle.scale.specs.Division.{shifted}
use Rattle.scale.specs.Parts.{half_of, quick_place}
use Rattle.scale.proofs.QuickRows.{half_entry, half_le, half_long, quick_length, quick_place_lt, reciprocal_entry, value_there}
use Rattle.scale.proofs.quick.QuickRow.quick_value.Goals as goal
use Rattle.scale.proofs.quick.QuickRow.quick_value.Goals.{After-half-start, After-place}

half_is : (c : After-half-start) → c.half-start.result ≡ half_of c.args.v
half_is c = c.half-start.ensures ∙ ap half_of (to_z-of_z c.ranges.v)

half-small : (c : After-half-start) → c.half-start.result ≤ 17
half-small c = rw (half_is c) (half_le _)

place_is : (c : After-place) → c.place.result ≡ quick_place (shifted c.args.v c.args.self.now.sf)
place_is c =
    let sf = c.args.self.now.sf in
    let r = returned w32 _ (search rules) (ap (λ l. get_or l sf (pos 0)) c.requires ∙ reciprocal_entry sf c.args.self.now.numbered) in
    c.place.ensures sf r ∙ ap (λ (x : ℤ). quick_place (shifted x sf)) (to_z-of_z c.ranges.v)

place-small : (c : After-place) → c.place.result < 17
place-small c = rw (place_is c) (quick_place_lt _)

long : (c : After-half-start) → length c.args.self.now.values ≡ 34
long c = rw c.args.self.now.own (quick_length _)

pub overflow_add-half_row : goal.overflow_add-half_row
overflow_add-half_row c = record { fits = omega (arith, half-small c) }

pub offset_bounds-self-start : goal.offset_bounds-self-start
offset_bounds-self-start c = record { fits = omega (arith, half-small c) }

pub slice_bounds-half_row-end : goal.slice_bounds-half_row-end
slice_bounds-half_row-end c = let h = half-small (goal.at.slice_bounds-half_row-end c).After-half-start in omega arith

pub offset_bounds-half_row-place : goal.offset_bounds-half_row-place
offset_bounds-half_row-place c = record { fits = omega (arith, place-small c) }

pub bounds-half_row-place : goal.bounds-half_row-place
bounds-half_row-place c =
    let h = half-small (goal.at.bounds-half_row-place c).After-half-start in
    rw (half_long c.half-start.result c.args.self.now.values (omega (arith, h, long (goal.at.bounds-half_row-place c).After-half-start))) (place-small c)

pub returns : goal.returns
returns c =
    let s = (goal.at.returns c).After-half-start in
    let p = (goal.at.returns c).After-place in
    widen_back {w = w16} w32 (search rules) (lit≤ tt)
    ∙ half_entry c.half-start.result c.place.result c.args.self.now.values (place-small p)
    ∙ ap₂ (λ l (i : ℕ). get_or l i (pos 0)) c.args.self.now.own (ap₂ ◌+◌ (half_is s) (place_is p))
    ∙ value_there c.args.v c.args.self.now.sf
