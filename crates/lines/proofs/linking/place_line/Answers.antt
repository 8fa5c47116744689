-- `lines::linking::place_line` meets its contract. The loop's invariant: the places that are left write from here what all write from the start. Assumes nothing.
use native.Mathlib.Omega.{arith}
use Rattle.graph.proofs.CountingLaws.{below_at}
use Rattle.lines.proofs.LinkingLoops.{place_again, place_end}
use Rattle.lines.proofs.linking.place_line.Goals as goal

pub offset_bounds-machines-a : goal.offset_bounds-machines-a
offset_bounds-machines-a c = let b = below_at _ c.args.line.now c.loop-i.i c.requires.0 (omega arith) in omega arith

pub bounds-machines-a : goal.bounds-machines-a
bounds-machines-a c = let b = below_at _ c.args.line.now c.loop-i.i c.requires.0 (omega arith) in omega (arith, c.loop-i.invariant.sized_machines)

pub offset_bounds-places-a : goal.offset_bounds-places-a
offset_bounds-places-a c = let b = below_at _ c.args.line.now c.loop-i.i c.requires.1 (omega arith) in omega arith

pub bounds-places-a : goal.bounds-places-a
bounds-places-a c = let b = below_at _ c.args.line.now c.loop-i.i c.requires.1 (omega arith) in omega (arith, c.loop-i.invariant.sized_places)

pub loop-i-preserved : goal.loop-i-preserved
loop-i-preserved c = place_again c.loop-i.invariant c.loop-i-test.true

pub returns : goal.returns
returns c = place_end c.loop-i.invariant c.loop-i-test.false
