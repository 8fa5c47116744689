-- `graph::release_list` meets its contract. The loop's invariant: what is left of the list frees from here what all of it frees from the
-- start. Assumes nothing.
use Rattle.graph.proofs.FreeingLaws.{list_end, list_asks, list_again}
use Rattle.graph.proofs.release_list.Goals as goal

pub lower-over-requires : goal.lower-over-requires
lower-over-requires c = list_asks c.loop-b.invariant c.loop-b-test.true

pub loop-b-preserved : goal.loop-b-preserved
loop-b-preserved c = list_again c.loop-b.invariant c.loop-b-test.true c.lower-over.ensures c.lower-over.auto.counts c.lower-over.auto.stack

pub returns : goal.returns
returns c = list_end c.loop-b.invariant c.loop-b-test.false
