-- `active::seats::begin` meets its contract. The loop's invariant: the rows are right for the tasks passed.
use native.Mathlib.Omega.{arith}
use Rattle.genes.proofs.TaskLaws.{task_within}
use Rattle.active.proofs.KeptLaws.{begin_again}
use Rattle.active.proofs.seats.begin.Goals as goal

pub overflow_add-next : goal.overflow_add-next
overflow_add-next c = omega (arith, c.requires.1.tasks.1, c.loop-t.invariant.sized, c.requires.1.activities.1, c.loop-t.invariant.here, task_within c.requires.1 c.loop-t.t c.loop-t-test.true, c.steps.ensures)

pub loop-t-preserved : goal.loop-t-preserved
loop-t-preserved c = begin_again c.requires.1 c.loop-t.invariant c.loop-t-test.true _ (omega (arith, c.steps.ensures))
