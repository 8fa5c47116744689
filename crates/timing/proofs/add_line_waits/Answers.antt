-- `timing::add_line_waits` meets its contract. The loop's invariant: the counts passed are right.
use Rattle.timing.proofs.CountLaws.{none_added, added}
use Rattle.timing.proofs.add_line_waits.Goals as goal

pub loop-a-init : goal.loop-a-init
loop-a-init c = none_added c.args.waits.now c.args.before.now c.args.counts.now c.requires.1

pub loop-a-preserved : goal.loop-a-preserved
loop-a-preserved c = added c.loop-a.invariant c.loop-a-test.true c.line_waits.ensures
