-- `lines::linking::link_pairs` meets its contract. The loop's invariant: the pairs that are left write from here what all write from the start. Assumes nothing.
use Prim.Native.Nat.{◌-◌}
use native.Mathlib.Omega.{arith}
use Rattle.graph.proofs.CountingLaws.{below_at}
use Rattle.lines.proofs.LinkingLoops.{pair_again, pair_end}
use Rattle.lines.proofs.linking.link_pairs.Goals as goal

pub offset_bounds-before-a : goal.offset_bounds-before-a
offset_bounds-before-a c = let b = below_at _ c.args.line.now c.loop-i.i c.requires.0 (omega arith) in omega arith

pub bounds-before-a : goal.bounds-before-a
bounds-before-a c = let b = below_at _ c.args.line.now c.loop-i.i c.requires.0 (omega arith) in omega (arith, c.loop-i.invariant.sized_before)

pub offset_bounds-after-p : goal.offset_bounds-after-p
offset_bounds-after-p c = let b = below_at _ c.args.line.now (c.loop-i.i - 1) c.requires.1 (omega arith) in omega arith

pub bounds-after-p : goal.bounds-after-p
bounds-after-p c = let b = below_at _ c.args.line.now (c.loop-i.i - 1) c.requires.1 (omega arith) in omega (arith, c.loop-i.invariant.sized_after)

pub loop-i-preserved : goal.loop-i-preserved
loop-i-preserved c = pair_again c.loop-i.invariant c.loop-i.auto.i c.loop-i-test.true

pub returns : goal.returns
returns c = pair_end c.loop-i.invariant c.loop-i-test.false
