-- `plan::transport_row` meets its contract. The loop's invariant: the cells passed are filled.
use Rattle.plan.proofs.RowLaws.{row_none, row_more}
use Rattle.plan.proofs.transport_row.Goals as goal

pub loop-to-init : goal.loop-to-init
loop-to-init c = row_none _

pub loop-to-preserved : goal.loop-to-preserved
loop-to-preserved c = row_more _ _ c.loop-to.invariant c.transport.ensures
