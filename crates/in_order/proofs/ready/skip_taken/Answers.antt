-- `in_order::ready::skip_taken` meets its contract. The loop's invariant: all passed so far are taken.
use mathlib.Core.Path.{◌≡◌, ◌∙◌}
use native.Mathlib.Omega.{arith}
use lib.ListN.{length}
use Rattle.graph.proofs.CountingLaws.{below_at}
use Rattle.in_order.proofs.ReadyLaws.{all_skipped, skip_end, skip_again}
use Rattle.in_order.proofs.ready.skip_taken.Goals as goal

pub offset_bounds-pending-a : goal.offset_bounds-pending-a
offset_bounds-pending-a c = let h = below_at (length c.args.pending.now) c.args.activities.now c.loop-i.i c.requires.0 c.loop-i-test.true in
    omega (arith, h)

pub bounds-pending-a : goal.bounds-pending-a
bounds-pending-a c = let h = below_at (length c.args.pending.now) c.args.activities.now c.loop-i.i c.requires.0 c.loop-i-test.true in
    omega (arith, h)

pub returns-then-pending-a-eq1 : goal.returns-then-pending-a-eq1
returns-then-pending-a-eq1 c = skip_end c.loop-i.invariant c.loop-i-test.true c.if-pending-a-eq1.true

pub loop-i-preserved : goal.loop-i-preserved
loop-i-preserved c = skip_again c.loop-i.invariant c.loop-i-test.true c.if-pending-a-eq1.false

pub returns : goal.returns
returns c = let e : length c.args.activities.now ≡ c.loop-i.i = omega (arith, c.loop-i.invariant.within, c.loop-i-test.false) in
    e ∙ all_skipped c.loop-i.invariant c.loop-i-test.false
