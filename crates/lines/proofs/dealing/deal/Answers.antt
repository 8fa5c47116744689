-- `lines::dealing::deal` meets its contract. The loop's invariant: what is left deals from here what all deals from the start. Assumes nothing.
use native.Mathlib.Omega.{arith}
use Rattle.lines.proofs.DealLaws.{deal_begin, deal_again, deal_end, has_machine, on_machine_lem, has_room}
use Rattle.lines.proofs.dealing.deal.Goals as goal

pub loop-a-init : goal.loop-a-init
loop-a-init c = deal_begin _ _ _

pub offset_bounds-machines-a : goal.offset_bounds-machines-a
offset_bounds-machines-a c = let k = has_machine c.loop-a.invariant c.requires c.loop-a-test.true in
    omega arith

pub bounds-machines-a : goal.bounds-machines-a
bounds-machines-a c = let k = has_machine c.loop-a.invariant c.requires c.loop-a-test.true in
    omega arith

pub offset_bounds-lens-m : goal.offset_bounds-lens-m
offset_bounds-lens-m c = let o = on_machine_lem c.loop-a.invariant c.requires c.loop-a-test.true in
    omega arith

pub bounds-lens-m : goal.bounds-lens-m
bounds-lens-m c = let o = on_machine_lem c.loop-a.invariant c.requires c.loop-a-test.true in
    omega arith

pub overflow_mul-place : goal.overflow_mul-place
overflow_mul-place c = let o = on_machine_lem c.loop-a.invariant c.requires c.loop-a-test.true in
    omega arith

pub overflow_add-place : goal.overflow_add-place
overflow_add-place c = let o = on_machine_lem c.loop-a.invariant c.requires c.loop-a-test.true in
    let r = has_room c.loop-a.invariant c.requires c.loop-a-test.true in
    omega (arith, c.loop-a.invariant.sized)

pub offset_bounds-cells-place : goal.offset_bounds-cells-place
offset_bounds-cells-place c = let r = has_room c.loop-a.invariant c.requires c.loop-a-test.true in
    omega (arith, c.loop-a.invariant.sized)

pub bounds-cells-place : goal.bounds-cells-place
bounds-cells-place c = let r = has_room c.loop-a.invariant c.requires c.loop-a-test.true in
    omega (arith, c.loop-a.invariant.sized)

pub offset_bounds-lens-m-in-loop-a : goal.offset_bounds-lens-m-in-loop-a
offset_bounds-lens-m-in-loop-a c = let o = on_machine_lem c.loop-a.invariant c.requires c.loop-a-test.true in
    omega arith

pub bounds-lens-m-in-loop-a : goal.bounds-lens-m-in-loop-a
bounds-lens-m-in-loop-a c = let o = on_machine_lem c.loop-a.invariant c.requires c.loop-a-test.true in
    omega arith

pub loop-a-preserved : goal.loop-a-preserved
loop-a-preserved c = deal_again c.loop-a.invariant c.requires c.loop-a-test.true

pub returns : goal.returns
returns c = deal_end c.loop-a.invariant c.requires c.loop-a-test.false
