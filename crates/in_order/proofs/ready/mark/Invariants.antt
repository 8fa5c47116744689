-- `in_order::ready::mark` meets its contract. The loop's invariant: marking the rest as well leaves what marking all does.
use Rattle.in_order.proofs.ReadyLaws.{Marking}
use Rattle.in_order.proofs.ready.mark.Given as goal

abbrev pub invariant-loop-a : goal.invariant-loop-a
invariant-loop-a l = Marking l.activities l.initial.pending l.pending l.a-index
