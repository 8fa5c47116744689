-- `in_order::ready::can_come` meets its contract: it is pending, and ready.
use native.Mathlib.Omega.{arith}
use Rattle.in_order.proofs.ReadyLaws.{not_pending, pending_one}
use Rattle.in_order.proofs.ready.can_come.Goals as goal

pub offset_bounds-pending-a : goal.offset_bounds-pending-a
offset_bounds-pending-a c = omega (arith, c.requires.here, c.requires.roomy)

pub bounds-pending-a : goal.bounds-pending-a
bounds-pending-a c = omega (arith, c.requires.here, c.requires.roomy)

pub returns-then-pending-a-ne1 : goal.returns-then-pending-a-ne1
returns-then-pending-a-ne1 c p n h told = not_pending p c.args.pending.now c.args.a c.if-pending-a-ne1.true

pub returns : goal.returns
returns c p n h told = pending_one p c.args.pending.now c.args.a c.if-pending-a-ne1.false (c.is_ready.ensures p n h told)
