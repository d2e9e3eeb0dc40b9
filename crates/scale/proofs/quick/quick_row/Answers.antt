-- `scale::quick_row` meets its contract. The invariant: the values below `i` are in place.
-- Assumes nothing.
use Rattle.std.proofs.Common.{◌≡◌, ℕ, ◌<◌, ◌≤◌, nat_abs, length, get_or, ℤ, pos, sym, ap, ◌∙◌, ap₂, arith, lit<, length-set, ext_get_or, to_z-of_z, w16, w32, SFits}
use Rattle.wrap.proofs.Elements.{placed}
use Rattle.wrap.proofs.Integers.{fits_abs, reread}
use Rattle.scale.specs.Parts.{quick_codes, quick_row}
use Rattle.scale.specs.Tables.{row_of}
use Rattle.scale.proofs.Bounds.{row_small}
use Rattle.scale.proofs.QuickRows.{quick_code_lt, quick_length, row_entry}
use Rattle.scale.proofs.quick.quick_row.Goals as goal
use Rattle.scale.proofs.quick.quick_row.Goals.{In-loop-i}

pub bounds-row-code : goal.bounds-row-code
bounds-row-code c = rw c.requires (quick_code_lt _ (omega arith))

-- the value, and that it is one of 16 bits
value-small : (c : In-loop-i) → nat_abs (get_or (row_of c.args.row.sf) (get_or quick_codes c.loop-i.i 0) (pos 0)) ≤ 14336
value-small c = row_small c.args.row.sf _ c.args.row.numbered (quick_code_lt _ (omega arith))

value-fits : (c : In-loop-i) → SFits w16 (get_or (row_of c.args.row.sf) (get_or quick_codes c.loop-i.i 0) (pos 0))
value-fits c = fits_abs _ (value-small c) (lit< tt)

value-is : (c : In-loop-i) → reread w32 (get_or c.args.row.values (get_or c.args.codes.now c.loop-i.i 0) (pos 0)) ≡ get_or (row_of c.args.row.sf) (get_or quick_codes c.loop-i.i 0) (pos 0)
value-is c =
    ap₂ (λ l (i : ℕ). reread w32 (get_or l i (pos 0))) c.args.row.own (ap (λ l. get_or l c.loop-i.i 0) c.requires) ∙ to_z-of_z {w = w32} (fits_abs _ (value-small c) (lit< tt))

pub overflow_cast-values-in-loop-i : goal.overflow_cast-values-in-loop-i
overflow_cast-values-in-loop-i c =
    let p = (goal.at.overflow_cast-values-in-loop-i c).In-loop-i in
    rw (value-is p) (value-fits p)

pub loop-i-preserved : goal.loop-i-preserved
loop-i-preserved c =
    let p = (goal.at.loop-i-preserved c).In-loop-i in
    let o = c.loop-i in
    let sf = c.args.row.sf in
    let room : o.i < length o.values = omega arith in record {
      long = simp length-set o.invariant.long;
      placed = placed (λ k. get_or (quick_row sf) k (pos 0)) (pos 0) o.values o.i _ room o.invariant.placed (ap (λ (z : ℤ). reread w16 z) (value-is p) ∙ to_z-of_z (value-fits p) ∙ sym (row_entry sf o.i (omega arith)));
    }

pub returns : goal.returns
returns c =
    let o = c.loop-i in
    ext_get_or (pos 0) o.values (quick_row c.args.row.sf) (o.invariant.long ∙ sym (quick_length c.args.row.sf)) (λ k h. o.invariant.placed k (omega arith))
