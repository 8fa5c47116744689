-- `plan::transports` meets its contract. The loop's invariant: the rows passed are filled.
use Rattle.plan.proofs.RowLaws.{rows_none, rows_more}
use Rattle.plan.proofs.transports.Goals as goal

pub loop-from-init : goal.loop-from-init
loop-from-init c = rows_none _ _

pub loop-from-preserved : goal.loop-from-preserved
loop-from-preserved c = rows_more _ _ _ c.loop-from.invariant c.transport_row.ensures
