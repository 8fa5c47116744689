-- `path::meeting` meets its contract: the link opened, and one test.
use native.Mathlib.Omega.{arith}
use borrow.Author.Tests.{eq-eqb, ne_eqb}
use lib.ListN.{length}
use Rattle.bounds.proofs.ArrivalLaws.{link_names}
use Rattle.path.proofs.meeting.Goals as goal

pub offset_bounds-ends-b : goal.offset_bounds-ends-b
offset_bounds-ends-b c = let h = link_names (length c.args.ends.now) c.in-Some.b c.in-Some.is c.requires.0 in
    omega arith

pub bounds-ends-b : goal.bounds-ends-b
bounds-ends-b c = link_names (length c.args.ends.now) c.in-Some.b c.in-Some.is c.requires.0

pub overflow_add-ends : goal.overflow_add-ends
overflow_add-ends c = omega (arith, c.requires.1 c.in-Some.b, c.requires.2)

pub returns-then-ends-b : goal.returns-then-ends-b
returns-then-ends-b c = rw (c.in-Some.is, eq-eqb _ _ c.if-ends-b.true)

pub returns : goal.returns
returns c = rw (c.in-Some.is, ne_eqb _ _ c.if-ends-b.false)
