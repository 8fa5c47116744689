-- `in_order::ready::mark` meets its contract. The loop's invariant: marking the rest as well leaves what marking all does.
use native.Mathlib.Omega.{arith}
use lib.ListN.{length}
use Rattle.graph.proofs.CountingLaws.{below_at}
use Rattle.in_order.proofs.ReadyLaws.{mark_again, mark_end}
use Rattle.in_order.proofs.ready.mark.Goals as goal

pub offset_bounds-pending-a : goal.offset_bounds-pending-a
offset_bounds-pending-a c = let h = below_at (length c.args.pending.now) c.args.activities.now c.loop-a.a-index c.requires c.loop-a-test.true in
    omega (arith, h, c.loop-a.invariant.sized)

pub bounds-pending-a : goal.bounds-pending-a
bounds-pending-a c = let h = below_at (length c.args.pending.now) c.args.activities.now c.loop-a.a-index c.requires c.loop-a-test.true in
    omega (arith, h, c.loop-a.invariant.sized)

pub loop-a-preserved : goal.loop-a-preserved
loop-a-preserved c = mark_again c.loop-a.invariant c.loop-a-test.true

pub returns : goal.returns
returns c = mark_end c.loop-a.invariant c.loop-a-test.false
