-- `lines::relinking::relink_line` meets its contract. The loop's invariant: those that are left write from here what all but the first write. Assumes nothing.
use mathlib.Core.Path.{◌∙◌}
use native.Mathlib.Omega.{arith}
use lib.ListN.{get_or, length-set}
use Rattle.graph.proofs.CountingLaws.{below_at}
use Rattle.lines.proofs.RelinkLaws.{relink_begin, relink_again, relink_end, relink_first, relink_none}
use Rattle.lines.proofs.relinking.relink_line.Goals as goal

pub returns-then-line-eq0 : goal.returns-then-line-eq0
returns-then-line-eq0 c = relink_none _ _ _ _ c.if-line-eq0.true

pub offset_bounds-before-first : goal.offset_bounds-before-first
offset_bounds-before-first c = let b = below_at _ c.args.line.now 0 c.requires.0 (omega arith) in omega arith

pub bounds-before-first : goal.bounds-before-first
bounds-before-first c = let b = below_at _ c.args.line.now 0 c.requires.0 (omega arith) in omega arith

pub offset_bounds-machines-first : goal.offset_bounds-machines-first
offset_bounds-machines-first c = let b = below_at _ c.args.line.now 0 c.requires.2 (omega arith) in omega arith

pub bounds-machines-first : goal.bounds-machines-first
bounds-machines-first c = let b = below_at _ c.args.line.now 0 c.requires.2 (omega arith) in omega arith

pub offset_bounds-places-first : goal.offset_bounds-places-first
offset_bounds-places-first c = let b = below_at _ c.args.line.now 0 c.requires.3 (omega arith) in omega arith

pub bounds-places-first : goal.bounds-places-first
bounds-places-first c = let b = below_at _ c.args.line.now 0 c.requires.3 (omega arith) in omega arith

pub loop-i-init : goal.loop-i-init
loop-i-init c = relink_begin _ _ _ _ _ _ (omega arith) (below_at _ c.args.line.now 0 c.requires.1 (omega arith))

pub offset_bounds-before-a : goal.offset_bounds-before-a
offset_bounds-before-a c = let b = below_at _ c.args.line.now c.loop-i.i c.requires.0 c.loop-i-test.true in omega arith

pub bounds-before-a : goal.bounds-before-a
bounds-before-a c = let b = below_at _ c.args.line.now c.loop-i.i c.requires.0 c.loop-i-test.true in
    omega (arith, c.loop-i.invariant.sized_before, length-set c.args.before.now (get_or c.args.line.now 0 0) c.args.n)

pub offset_bounds-machines-a : goal.offset_bounds-machines-a
offset_bounds-machines-a c = let b = below_at _ c.args.line.now c.loop-i.i c.requires.2 c.loop-i-test.true in omega arith

pub bounds-machines-a : goal.bounds-machines-a
bounds-machines-a c = let b = below_at _ c.args.line.now c.loop-i.i c.requires.2 c.loop-i-test.true in
    omega (arith, c.loop-i.invariant.sized_machines, length-set c.args.machines.now (get_or c.args.line.now 0 0) c.args.machine)

pub offset_bounds-places-a : goal.offset_bounds-places-a
offset_bounds-places-a c = let b = below_at _ c.args.line.now c.loop-i.i c.requires.3 c.loop-i-test.true in omega arith

pub bounds-places-a : goal.bounds-places-a
bounds-places-a c = let b = below_at _ c.args.line.now c.loop-i.i c.requires.3 c.loop-i-test.true in
    omega (arith, c.loop-i.invariant.sized_places, length-set c.args.places.now (get_or c.args.line.now 0 0) 0)

pub loop-i-preserved : goal.loop-i-preserved
loop-i-preserved c = relink_again c.loop-i.invariant c.loop-i-test.true (below_at _ c.args.line.now c.loop-i.i c.requires.1 c.loop-i-test.true)

pub returns : goal.returns
returns c = relink_end c.loop-i.invariant c.loop-i-test.false ∙ relink_first _ _ _ _ _ _ _ c.if-line-eq0.false
