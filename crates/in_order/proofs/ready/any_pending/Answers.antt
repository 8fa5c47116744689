-- `in_order::ready::any_pending` meets its contract. The loop's invariant: one of the rest is pending where one of all is.
use native.Mathlib.Omega.{arith}
use lib.ListN.{length}
use Rattle.graph.proofs.CountingLaws.{below_at}
use Rattle.in_order.proofs.ReadyLaws.{none_pending, one_pending, ask_again}
use Rattle.in_order.proofs.ready.any_pending.Goals as goal

pub offset_bounds-pending-b : goal.offset_bounds-pending-b
offset_bounds-pending-b c = let h = below_at (length c.args.pending.now) c.args.list.now c.loop-b.b-index c.requires c.loop-b-test.true in
    omega (arith, h)

pub bounds-pending-b : goal.bounds-pending-b
bounds-pending-b c = let h = below_at (length c.args.pending.now) c.args.list.now c.loop-b.b-index c.requires c.loop-b-test.true in
    omega (arith, h)

pub returns-then-pending-b-eq1 : goal.returns-then-pending-b-eq1
returns-then-pending-b-eq1 c = one_pending c.loop-b.invariant c.loop-b-test.true c.if-pending-b-eq1.true

pub loop-b-preserved : goal.loop-b-preserved
loop-b-preserved c = ask_again c.loop-b.invariant c.loop-b-test.true c.if-pending-b-eq1.false

pub returns : goal.returns
returns c = none_pending c.loop-b.invariant c.loop-b-test.false
