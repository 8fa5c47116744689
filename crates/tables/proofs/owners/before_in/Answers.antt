-- `tables::owners::before_in` meets its contract, by its two tests.
use native.Mathlib.Omega.{arith}
use borrow.Author.Tests.{eq-eqb, ne_eqb}
use Rattle.tables.proofs.owners.before_in.Goals as goal

pub returns-then-a-eq0 : goal.returns-then-a-eq0
returns-then-a-eq0 c = rw (eq-eqb _ _ c.if-a-eq0.true)

pub returns-then-owners-earlier : goal.returns-then-owners-earlier
returns-then-owners-earlier c = rw (ne_eqb _ _ c.if-a-eq0.false, eq-eqb _ _ c.if-owners-earlier.true) (omega arith)

pub returns : goal.returns
returns c = rw (ne_eqb _ _ c.if-a-eq0.false, ne_eqb _ _ c.if-owners-earlier.false) (omega arith)
