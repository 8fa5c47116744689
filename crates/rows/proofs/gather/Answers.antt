use native.Mathlib.Omega.{arith}
use lib.ListN.{length}
use Rattle.graph.proofs.CountingLaws.{below_at}
use Rattle.rows.proofs.RowLaws.{none_gathered, gather_next, all-gathered}
use Rattle.rows.proofs.gather.Goals as goal

pub loop-i-init : goal.loop-i-init
loop-i-init g c = none_gathered _ _ _ c.requires.0

pub offset_bounds-values-a : goal.offset_bounds-values-a
offset_bounds-values-a g c = let h = below_at (length c.args.values.now) c.args.order.now c.loop-i.i c.requires.1 c.loop-i-test.true in omega arith

pub bounds-values-a : goal.bounds-values-a
bounds-values-a g c = let h = below_at (length c.args.values.now) c.args.order.now c.loop-i.i c.requires.1 c.loop-i-test.true in omega arith

pub loop-i-preserved : goal.loop-i-preserved
loop-i-preserved g c = λ d. gather_next (c.loop-i.invariant d) c.loop-i-test.true (below_at (length c.args.values.now) c.args.order.now c.loop-i.i c.requires.1 c.loop-i-test.true) c.index-values-a.is

pub returns : goal.returns
returns g c = λ d. all-gathered (c.loop-i.invariant d) c.loop-i-test.false
