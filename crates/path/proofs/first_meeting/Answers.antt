-- `path::first_meeting` meets its contract. The loop's invariant: the first of what is left is the first of all.
use native.Mathlib.Omega.{arith}
use borrow.Author.Tests.{eq-eqb, ne_eqb}
use lib.ListN.{length}
use Rattle.graph.proofs.CountingLaws.{below_at}
use Rattle.path.proofs.MeetingLaws.{none_met, met, passed}
use Rattle.path.proofs.first_meeting.Goals as goal

pub offset_bounds-ends-b : goal.offset_bounds-ends-b
offset_bounds-ends-b c = let h = below_at (length c.args.ends.now) c.args.named.now c.loop-b.b-index c.requires c.loop-b-test.true in
    omega arith

pub bounds-ends-b : goal.bounds-ends-b
bounds-ends-b c = below_at (length c.args.ends.now) c.args.named.now c.loop-b.b-index c.requires c.loop-b-test.true

pub returns-then-ends-b : goal.returns-then-ends-b
returns-then-ends-b c = met c.loop-b.invariant c.loop-b-test.true (eq-eqb _ _ c.if-ends-b.true)

pub loop-b-preserved : goal.loop-b-preserved
loop-b-preserved c = passed c.loop-b.invariant c.loop-b-test.true (ne_eqb _ _ c.if-ends-b.false)

pub returns : goal.returns
returns c = none_met c.loop-b.invariant c.loop-b-test.false
