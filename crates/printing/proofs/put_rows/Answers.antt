use Rattle.printing.proofs.PrintingLaws.{no_rows, row_next}
use Rattle.printing.proofs.put_rows.Goals as goal

pub loop-i-init : goal.loop-i-init
loop-i-init c = no_rows c.args.line.now c.args.at c.args.activities.now c.args.machines.now c.args.starts.now c.args.ends.now c.args.setups.now c.requires.activities_in_bounds

pub loop-i-preserved : goal.loop-i-preserved
loop-i-preserved c = row_next c.loop-i.invariant c.loop-i-test.true c.put_row-next.ensures.text c.put_row-next.ensures.short
