-- `graph::release_list` meets its contract. The loop's invariant: what is left of the list frees from here what all of it frees from the
-- start. Assumes nothing.
use Rattle.graph.proofs.FreeingLaws.{Listing}
use Rattle.graph.proofs.release_list.Given as goal

abbrev pub invariant-loop-b : goal.invariant-loop-b
invariant-loop-b l = Listing l.bs l.initial.counts l.initial.stack l.top l.counts l.stack l.over l.b-index
