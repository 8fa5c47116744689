-- `active::scanning::any_unsettled` meets its contract. The loop's invariant: one of the rest is not settled where one of all is not.
use native.Mathlib.Omega.{arith}
use lib.ListN.{length}
use Rattle.graph.proofs.CountingLaws.{below_at}
use Rattle.active.proofs.RankLaws.{none_unsettled, one_unsettled, ask_again}
use Rattle.active.proofs.scanning.any_unsettled.Goals as goal

pub offset_bounds-settled-b : goal.offset_bounds-settled-b
offset_bounds-settled-b c = let h = below_at (length c.args.settled.now) c.args.list.now c.loop-b.b-index c.requires c.loop-b-test.true in
    omega (arith, h)

pub bounds-settled-b : goal.bounds-settled-b
bounds-settled-b c = let h = below_at (length c.args.settled.now) c.args.list.now c.loop-b.b-index c.requires c.loop-b-test.true in
    omega (arith, h)

pub returns-then-settled-b-ne1 : goal.returns-then-settled-b-ne1
returns-then-settled-b-ne1 c = one_unsettled c.loop-b.invariant c.loop-b-test.true c.if-settled-b-ne1.true

pub loop-b-preserved : goal.loop-b-preserved
loop-b-preserved c = ask_again c.loop-b.invariant c.loop-b-test.true c.if-settled-b-ne1.false

pub returns : goal.returns
returns c = none_unsettled c.loop-b.invariant c.loop-b-test.false
