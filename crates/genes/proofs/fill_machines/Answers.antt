-- `genes::fill_machines` meets its contract. The loop's invariant: the cells of the activities passed are filled, and `all` says whether each has
-- a machine. Assumes nothing.
use Rattle.genes.proofs.MachineLaws.{fill_begin, fill_on, fill_without, fill_end}
use native.Mathlib.Omega.{arith}
use mathlib.Core.Path.{sym, ◌∙◌}
use Rattle.genes.proofs.fill_machines.Goals as goal

pub loop-a-init : goal.loop-a-init
loop-a-init c = fill_begin _ _ _

pub loop-a-preserved-in_default : goal.loop-a-preserved-in_default
loop-a-preserved-in_default c = fill_without c.loop-a.invariant _ (cc) c.loop-a-test.true
    (sym c.in_default.is ∙ c.assigned.ensures)

pub loop-a-preserved : goal.loop-a-preserved
loop-a-preserved c = fill_on c.loop-a.invariant c.in-Some.m _ (omega arith) c.loop-a-test.true
    (sym c.in-Some.is ∙ c.assigned.ensures)

pub returns : goal.returns
returns c = record { value = (fill_end c.loop-a.invariant c.loop-a-test.false).0; machines_after = (fill_end c.loop-a.invariant c.loop-a-test.false).1 }
