-- `genes::fill_firsts` meets its contract. The loop's invariant: the cells of the tasks passed are filled, and `first` is the next task's first
-- activity. Assumes nothing.
use native.Mathlib.Omega.{arith}
use Rattle.genes.proofs.TaskLaws.{number_begin, number_again, number_end}
use Rattle.genes.proofs.fill_firsts.Goals as goal

pub loop-t-init : goal.loop-t-init
loop-t-init c = number_begin _ _ _

pub loop-t-preserved : goal.loop-t-preserved
loop-t-preserved c = number_again c.loop-t.invariant _ c.steps.result (omega arith) c.loop-t-test.true (omega arith) c.steps.ensures

pub returns : goal.returns
returns c = number_end c.loop-t.invariant c.loop-t-test.false
