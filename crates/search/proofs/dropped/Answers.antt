-- `search::dropped` meets its contract: each return rewrites with the tests that led there.
-- Assumes nothing.
use borrow.Author.Tests.{le-ltb, lt-ltb, eq-eqb, ne_eqb}
use Rattle.search.specs.Parts.{drops}
use Rattle.search.proofs.dropped.Goals as goal

pub returns-then-limit-rank : goal.returns-then-limit-rank
unfolding drops
returns-then-limit-rank c = simp (lt-ltb _ _ c.if-limit-rank.true)

pub returns-then-i-eq10 : goal.returns-then-i-eq10
unfolding drops
returns-then-i-eq10 c = simp (le-ltb _ _ c.if-limit-rank.false, eq-eqb _ _ c.if-i-eq10.true)

pub returns : goal.returns
unfolding drops
returns c = simp (le-ltb _ _ c.if-limit-rank.false, ne_eqb _ _ c.if-i-eq10.false)
