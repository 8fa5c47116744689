-- `in_order::ready::is_ready` meets its contract: neither a predecessor nor an earlier step is pending.
use lib.ListN.{length}
use Rattle.graph.proofs.CountingLaws.{below_more}
use Rattle.in_order.proofs.ReadyLaws.{not_ready, earlier_waits, all_taken}
use Rattle.in_order.proofs.ready.is_ready.Goals as goal

pub any_pending-requires : goal.any_pending-requires
any_pending-requires c = rw (c.named_by.ensures c.requires.problem c.requires.naming.tabled c.requires.here c.requires.naming.few) (below_more c.requires.problem.n (length c.args.pending.now) (c.requires.problem.predecessors c.args.a) c.requires.roomy (c.requires.naming.named c.args.a))

pub returns-then-any_pending : goal.returns-then-any_pending
returns-then-any_pending c p n h told = not_ready p c.args.pending.now c.args.a (c.named_by.ensures p n.tabled h n.few) c.any_pending.ensures c.if-any_pending.true

pub returns-then-step_pending : goal.returns-then-step_pending
returns-then-step_pending c p n h told = earlier_waits p c.args.pending.now c.args.a told (c.step_pending.ensures p n.tabled h) c.if-step_pending.true

pub returns : goal.returns
returns c p n h told = all_taken p c.args.pending.now c.args.a told (c.named_by.ensures p n.tabled h n.few) c.any_pending.ensures c.if-any_pending.false (c.step_pending.ensures p n.tabled h) c.if-step_pending.false
