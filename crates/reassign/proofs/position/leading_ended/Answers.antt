-- `reassign::position::leading_ended` meets its contract. What leads from the turn on is the rest of what leads.
use native.Mathlib.Omega.{arith}
use borrow.Author.Tests.{le-leb, lt-leb}
use lib.ListN.{length}
use Rattle.graph.proofs.CountingLaws.{below_at}
use Rattle.reassign.proofs.PositionLaws.{leading_stop, leading_again, leading_end}
use Rattle.reassign.proofs.position.leading_ended.Goals as goal

pub offset_bounds-ends-x : goal.offset_bounds-ends-x
offset_bounds-ends-x c = let b = below_at (length c.args.ends.now) c.args.line.now c.loop-i.i c.requires c.loop-i-test.true in omega arith

pub bounds-ends-x : goal.bounds-ends-x
bounds-ends-x c = let b = below_at (length c.args.ends.now) c.args.line.now c.loop-i.i c.requires c.loop-i-test.true in omega arith

pub returns-then-start-ends : goal.returns-then-start-ends
returns-then-start-ends c = leading_stop c.loop-i.invariant c.loop-i-test.true (lt-leb _ _ c.if-start-ends.true)

pub loop-i-preserved : goal.loop-i-preserved
loop-i-preserved c = leading_again c.loop-i.invariant c.loop-i-test.true (le-leb _ _ c.if-start-ends.false)

pub returns : goal.returns
returns c = leading_end c.loop-i.invariant c.loop-i-test.false
