use Rattle.rows.proofs.RowLaws.{gathered_over}
use Rattle.rows.proofs.write.Goals as goal

pub returns : goal.returns
returns c =
    record {
      activities = c.copy_over.ensures;
      machines = gathered_over c.args.on.now c.args.order.now c.args.machines.now (c.gather.ensures 0);
      starts = gathered_over c.args.begun.now c.args.order.now c.args.starts.now (c.gather-2.ensures 0);
      ends = gathered_over c.args.done.now c.args.order.now c.args.ends.now (c.gather-3.ensures 0);
      setups = gathered_over c.args.prepared.now c.args.order.now c.args.setups.now (c.gather-4.ensures 0);
    }
