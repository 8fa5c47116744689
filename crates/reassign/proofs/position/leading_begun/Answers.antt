-- `reassign::position::leading_begun` meets its contract. What leads from the turn on is the rest of what leads.
use native.Mathlib.Omega.{arith}
use borrow.Author.Tests.{le-ltb, lt-ltb}
use lib.ListN.{length}
use Rattle.graph.proofs.CountingLaws.{below_at}
use Rattle.reassign.proofs.PositionLaws.{leading_stop, leading_again, leading_end}
use Rattle.reassign.proofs.position.leading_begun.Goals as goal

pub offset_bounds-starts-x : goal.offset_bounds-starts-x
offset_bounds-starts-x c = let b = below_at (length c.args.starts.now) c.args.line.now c.loop-i.i c.requires c.loop-i-test.true in omega arith

pub bounds-starts-x : goal.bounds-starts-x
bounds-starts-x c = let b = below_at (length c.args.starts.now) c.args.line.now c.loop-i.i c.requires c.loop-i-test.true in omega arith

pub returns-then-end-starts : goal.returns-then-end-starts
returns-then-end-starts c = leading_stop c.loop-i.invariant c.loop-i-test.true (le-ltb _ _ c.if-end-starts.true)

pub loop-i-preserved : goal.loop-i-preserved
loop-i-preserved c = leading_again c.loop-i.invariant c.loop-i-test.true (lt-ltb _ _ c.if-end-starts.false)

pub returns : goal.returns
returns c = leading_end c.loop-i.invariant c.loop-i-test.false
