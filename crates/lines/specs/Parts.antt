-- The lists of a request. A list is the byte of its kind, a count of its elements in four bytes, and the elements, each of so many
-- bytes. Assumes nothing.
use Rattle.std.specs.Prelude.{ℕ, ◌+◌, ◌*◌, ◌≤◌, ◌≡◌, Bool, ◌&&◌, cond, List, eqb, leb, get_or, length}
use Rattle.word.specs.Bytes.{be32}
use Rattle.lines.specs.declared.parts.Part.{Part}

-- whether a whole list of a kind stands at a place, with at most so many elements
unfoldable pub is_part : List ℕ → ℕ → ℕ → ℕ → ℕ → Bool
is_part ask at kind width most =
    leb (at + 5) (length ask) && (eqb (get_or ask at 0) kind && (leb (be32 ask (at + 1)) most && leb (at + 5 + be32 ask (at + 1) * width) (length ask)))

-- the list of a kind at a place; none where there is no such list
unfoldable pub part_at : List ℕ → ℕ → ℕ → ℕ → ℕ → Part
part_at ask at kind width most =
    cond (is_part ask at kind width most)
    (record { from = at + 5; count = be32 ask (at + 1); next = at + 5 + be32 ask (at + 1) * width })
    (record { from = at; count = 0; next = at })

-- the part that was found, which lies within the request and within its room
pub record PartTaken (ask : List ℕ) (at kind width most : ℕ) (r : Part) : Type 0 where
  pub part : r ≡ part_at ask at kind width most
  pub count : r.count ≤ most
  pub end : r.next ≡ r.from + r.count * width
  pub within : r.next ≤ length ask
