-- `in_order::ready::ready_order` meets its contract. The loop's invariant: what is written, then what is still to come, is the whole order;
-- and all before the front are taken.
use Rattle.graph.specs.Counting.{Below}
use Rattle.plan.specs.Problem.{Problem}
use Rattle.in_order.specs.Waiting.{Naming, Stepwise}
use Rattle.in_order.proofs.StepLaws.{Rising}
use Rattle.in_order.proofs.TakingLaws.{Taking, Coming}
use Rattle.in_order.proofs.ready.ready_order.Given as goal

abbrev pub invariant-loop-taken : goal.invariant-loop-taken
invariant-loop-taken l = Taking l.activities l.initial.order l.order l.pending l.front l.taken × ((p : Problem) → Naming p l.table → Below p.n l.activities → Stepwise p l.activities → Coming p l.activities l.order l.pending l.taken × Rising p l.activities l.pending)
