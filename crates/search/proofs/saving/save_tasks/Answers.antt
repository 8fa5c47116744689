use Rattle.graph.proofs.CountingLaws.{below_at}
use Rattle.search.proofs.SavingLaws.{none_saved, saved_next, all_saved}
use Rattle.search.proofs.saving.save_tasks.Goals as goal

pub loop-i-init : goal.loop-i-init
loop-i-init c = none_saved c.args.table.now c.args.order.now c.args.tasks.now c.requires.2

pub owner-requires : goal.owner-requires
owner-requires c = (below_at 128 c.args.order.now c.loop-i.i c.requires.1 c.loop-i-test.true, c.requires.0)

pub loop-i-preserved : goal.loop-i-preserved
loop-i-preserved c = saved_next c.loop-i.invariant c.loop-i-test.true c.owner.ensures

pub returns : goal.returns
returns c = all_saved c.loop-i.invariant c.loop-i-test.false
