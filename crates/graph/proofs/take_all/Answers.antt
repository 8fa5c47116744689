-- `graph::take_all` meets its contract. The loop's invariant: what is taken, then what the rules take from here, is what they take from the
-- start; the measure is the places that are left in the order. Assumes nothing.
use native.Mathlib.Omega.{arith}
use Rattle.graph.proofs.Taking.{take_begin, take_end, take-place, take_known, take_asks, take_again}
use Rattle.graph.proofs.take_all.Goals as goal

pub loop-top-init : goal.loop-top-init
loop-top-init c = take_begin c.requires.first_in_bounds.0 c.requires.safe_run

pub bounds-order-taken : goal.bounds-order-taken
bounds-order-taken c = let h = take-place c.loop-top.invariant c.loop-top-test.true in omega arith

pub release-top-requires : goal.release-top-requires
release-top-requires c = record { a_in_bounds = (take_known c.loop-top.invariant c.loop-top-test.true, c.requires.first_in_bounds.1); safe = take_asks c.loop-top.invariant c.loop-top-test.true }

pub loop-top-smaller : goal.loop-top-smaller
loop-top-smaller c = let h = take-place c.loop-top.invariant c.loop-top-test.true in omega arith

pub loop-top-preserved : goal.loop-top-preserved
loop-top-preserved c = take_again c.loop-top.invariant c.loop-top-test.true c.release-top.ensures.0 c.release-top.auto.counts c.release-top.auto.stack c.release-top.ensures.1

pub returns : goal.returns
returns c = take_end c.loop-top.invariant c.loop-top-test.false
