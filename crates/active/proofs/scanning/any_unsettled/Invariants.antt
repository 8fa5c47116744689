-- `active::scanning::any_unsettled` meets its contract. The loop's invariant: one of the rest is not settled where one of all is not.
use Rattle.active.proofs.RankLaws.{Asking}
use Rattle.active.proofs.scanning.any_unsettled.Given as goal

abbrev pub invariant-loop-b : goal.invariant-loop-b
invariant-loop-b l = Asking l.settled l.list l.b-index
