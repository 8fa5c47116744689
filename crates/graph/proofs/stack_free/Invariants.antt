-- `graph::stack_free` meets its contract. The loop's invariant: from here the rules stack what they stack from the start. Assumes nothing.
use Rattle.graph.proofs.Stacking.{Stacking}
use Rattle.graph.proofs.stack_free.Given as goal

abbrev pub invariant-loop-a : goal.invariant-loop-a
invariant-loop-a l = Stacking l.counts l.initial.stack l.stack l.top l.a
