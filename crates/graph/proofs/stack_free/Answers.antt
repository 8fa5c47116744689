-- `graph::stack_free` meets its contract. The loop's invariant: from here the rules stack what they stack from the start. Assumes nothing.
use native.Mathlib.Omega.{arith}
use Rattle.graph.proofs.Stacking.{stack_begin, stack_end, stack_push, stack_skip}
use Rattle.graph.proofs.stack_free.Goals as goal
use Rattle.graph.proofs.stack_free.Goals.{then-count-eq0, else-count-eq0}

pub loop-a-init : goal.loop-a-init
loop-a-init c = stack_begin _ _

pub loop-a-preserved : goal.loop-a-preserved
loop-a-preserved c = elim c.if-count-eq0.branch [
  | then-count-eq0 w ↦ rw (w.stack-is, w.top-is) (stack_push c.loop-a.invariant c.loop-a-test.true (omega arith) w.if-count-eq0.true)
  | else-count-eq0 w ↦ rw (w.stack-is, w.top-is) (stack_skip c.loop-a.invariant c.loop-a-test.true w.if-count-eq0.false)
]

pub returns : goal.returns
returns c = stack_end c.loop-a.invariant c.loop-a-test.false
