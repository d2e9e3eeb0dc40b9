-- `format::facts::facts_of` meets its contract. Both casts are closed by the search: a double holds each `u32`. Assumes nothing.
use borrow.Author.Tests.{eq-eqb, ne_eqb}
use lib.Ieee.{of_bits}
use Rattle.format.specs.Facts.{facts_of}
use Rattle.format.proofs.facts.facts_of.Goals as goal

pub returns-then-timed : goal.returns-then-timed
unfolding facts_of
returns-then-timed c = simp (ne_eqb _ _ c.if-timed.true)

pub returns-else-timed : goal.returns-else-timed
unfolding facts_of of_bits
returns-else-timed c = simp (eq-eqb _ _ c.if-timed.false)
