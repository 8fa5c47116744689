-- `tables::owners::fill_owners` meets its contract. The loop's invariant: the owners passed are filled, and a task has begun.
use Rattle.words.specs.Words.{words}
use Rattle.plan.specs.Input.{task_of}
use Rattle.tables.specs.Columns.{Filled, Begun}
use Rattle.tables.proofs.owners.fill_owners.Given as goal

abbrev pub invariant-loop-a : goal.invariant-loop-a
invariant-loop-a l = Begun (words l.s) l.z l.place l.a × Filled l.a (task_of (words l.s) l.z) l.owners
