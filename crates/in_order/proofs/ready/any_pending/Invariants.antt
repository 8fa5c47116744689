-- `in_order::ready::any_pending` meets its contract. The loop's invariant: one of the rest is pending where one of all is.
use Rattle.in_order.proofs.ReadyLaws.{Asking}
use Rattle.in_order.proofs.ready.any_pending.Given as goal

abbrev pub invariant-loop-b : goal.invariant-loop-b
invariant-loop-b l = Asking l.pending l.list l.b-index
