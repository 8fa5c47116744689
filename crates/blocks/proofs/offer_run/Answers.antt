-- `blocks::offer_run` meets its contract: the run's positions are on its line, and a single activity offers nothing.
use Prim.Native.Nat.{◌+◌, ◌*◌}
use mathlib.Core.Path.{refl, ap}
use native.Mathlib.Omega.{arith}
use lib.ListN.{length, get_or}
use Rattle.lines.specs.Lines.{lines_in}
use Rattle.ranking.specs.Ranking.{ranked}
use Rattle.moves.proofs.CellLaws.{part_is}
use Rattle.blocks.proofs.PathLaws.{first_known, last_known, machine_known, last_inside, estimable}
use Rattle.blocks.proofs.BlockLaws.{single_offered, block-offered}
use Rattle.blocks.proofs.offer_run.Goals as goal

pub offset_bounds-machines-a : goal.offset_bounds-machines-a
offset_bounds-machines-a c = let x = first_known c.requires.0.searched.pathed c.requires.2 in
    let y = last_known c.requires.0.searched.pathed c.requires.2 in
    omega (arith, c.requires.0.searched.pathed.machined, c.requires.0.searched.pathed.placed)

pub bounds-machines-a : goal.bounds-machines-a
bounds-machines-a c = let x = first_known c.requires.0.searched.pathed c.requires.2 in
    let y = last_known c.requires.0.searched.pathed c.requires.2 in
    omega (arith, c.requires.0.searched.pathed.machined, c.requires.0.searched.pathed.placed)

pub offset_bounds-places-a : goal.offset_bounds-places-a
offset_bounds-places-a c = let x = first_known c.requires.0.searched.pathed c.requires.2 in
    let y = last_known c.requires.0.searched.pathed c.requires.2 in
    omega (arith, c.requires.0.searched.pathed.machined, c.requires.0.searched.pathed.placed)

pub bounds-places-a : goal.bounds-places-a
bounds-places-a c = let x = first_known c.requires.0.searched.pathed c.requires.2 in
    let y = last_known c.requires.0.searched.pathed c.requires.2 in
    omega (arith, c.requires.0.searched.pathed.machined, c.requires.0.searched.pathed.placed)

pub offset_bounds-places-b : goal.offset_bounds-places-b
offset_bounds-places-b c = let x = first_known c.requires.0.searched.pathed c.requires.2 in
    let y = last_known c.requires.0.searched.pathed c.requires.2 in
    omega (arith, c.requires.0.searched.pathed.machined, c.requires.0.searched.pathed.placed)

pub bounds-places-b : goal.bounds-places-b
bounds-places-b c = let x = first_known c.requires.0.searched.pathed c.requires.2 in
    let y = last_known c.requires.0.searched.pathed c.requires.2 in
    omega (arith, c.requires.0.searched.pathed.machined, c.requires.0.searched.pathed.placed)

pub returns-then-last-first : goal.returns-then-last-first
returns-then-last-first c = single_offered c.args.all (lines_in c.args.cells.now c.args.lens.now) c.args.table.now c.args.starts.now c.args.ends.now c.args.tail.now c.args.path.now c.args.machines.now c.args.places.now (get_or c.args.machines.now (get_or c.args.path.now c.args.i 0) 0) (get_or c.args.places.now (get_or c.args.path.now c.args.i 0) 0) (get_or c.args.places.now (get_or c.args.path.now c.args.r 0) 0) (ranked c.args.three) c.if-last-first.true

pub overflow_mul-start : goal.overflow_mul-start
overflow_mul-start c = let x = first_known c.requires.0.searched.pathed c.requires.2 in
    let y = last_known c.requires.0.searched.pathed c.requires.2 in
    omega (arith, machine_known c.requires.0.searched.pathed c.requires.2)

pub offset_bounds-lens-machine : goal.offset_bounds-lens-machine
offset_bounds-lens-machine c = let x = first_known c.requires.0.searched.pathed c.requires.2 in
    let y = last_known c.requires.0.searched.pathed c.requires.2 in
    omega (arith, machine_known c.requires.0.searched.pathed c.requires.2)

pub bounds-lens-machine : goal.bounds-lens-machine
bounds-lens-machine c = let x = first_known c.requires.0.searched.pathed c.requires.2 in
    let y = last_known c.requires.0.searched.pathed c.requires.2 in
    omega (arith, machine_known c.requires.0.searched.pathed c.requires.2)

pub overflow_add-end : goal.overflow_add-end
overflow_add-end c = let x = first_known c.requires.0.searched.pathed c.requires.2 in
    let y = last_known c.requires.0.searched.pathed c.requires.2 in
    let fit = c.requires.1.fit (get_or c.args.machines.now (get_or c.args.path.now c.args.i 0) 0) in
    omega (arith, machine_known c.requires.0.searched.pathed c.requires.2, c.requires.1.roomy)

pub offset_bounds-cells-start : goal.offset_bounds-cells-start
offset_bounds-cells-start c = let x = first_known c.requires.0.searched.pathed c.requires.2 in
    let y = last_known c.requires.0.searched.pathed c.requires.2 in
    let fit = c.requires.1.fit (get_or c.args.machines.now (get_or c.args.path.now c.args.i 0) 0) in
    omega (arith, machine_known c.requires.0.searched.pathed c.requires.2, c.requires.1.roomy)

pub slice_bounds-offer_block-start : goal.slice_bounds-offer_block-start
slice_bounds-offer_block-start c = let x = first_known c.requires.0.searched.pathed c.requires.2 in
    let y = last_known c.requires.0.searched.pathed c.requires.2 in
    let fit = c.requires.1.fit (get_or c.args.machines.now (get_or c.args.path.now c.args.i 0) 0) in
    omega (arith, machine_known c.requires.0.searched.pathed c.requires.2, c.requires.1.roomy)

pub slice_bounds-offer_block-end : goal.slice_bounds-offer_block-end
slice_bounds-offer_block-end c = let x = first_known c.requires.0.searched.pathed c.requires.2 in
    let y = last_known c.requires.0.searched.pathed c.requires.2 in
    let fit = c.requires.1.fit (get_or c.args.machines.now (get_or c.args.path.now c.args.i 0) 0) in
    omega (arith, machine_known c.requires.0.searched.pathed c.requires.2, c.requires.1.roomy)

pub offer_block-requires : goal.offer_block-requires
offer_block-requires c = let x = first_known c.requires.0.searched.pathed c.requires.2 in
    let y = last_known c.requires.0.searched.pathed c.requires.2 in
    let e = part_is c.requires.1 (get_or c.args.machines.now (get_or c.args.path.now c.args.i 0) 0) (machine_known c.requires.0.searched.pathed c.requires.2) (128 * (get_or c.args.machines.now (get_or c.args.path.now c.args.i 0) 0) + get_or c.args.lens.now (get_or c.args.machines.now (get_or c.args.path.now c.args.i 0) 0) 0) refl in
    let long = ap length e in
    let z = last_inside c.requires.0.searched.pathed c.requires.2 in
    (estimable c.requires.0.searched (get_or c.args.machines.now (get_or c.args.path.now c.args.i 0) 0) _ e, c.if-last-first.false, omega arith, omega (arith, (c.requires.0.searched.pathed.lined (get_or c.args.machines.now (get_or c.args.path.now c.args.i 0) 0)).short, c.requires.3))

pub shape_of-heads : goal.shape_of-heads
shape_of-heads c = c.offer_block.auto.heads

pub returns : goal.returns
returns c = let x = first_known c.requires.0.searched.pathed c.requires.2 in
    let y = last_known c.requires.0.searched.pathed c.requires.2 in
    let e = part_is c.requires.1 (get_or c.args.machines.now (get_or c.args.path.now c.args.i 0) 0) (machine_known c.requires.0.searched.pathed c.requires.2) (128 * (get_or c.args.machines.now (get_or c.args.path.now c.args.i 0) 0) + get_or c.args.lens.now (get_or c.args.machines.now (get_or c.args.path.now c.args.i 0) 0) 0) refl in
    block-offered c.args.all (lines_in c.args.cells.now c.args.lens.now) c.args.table.now c.args.starts.now c.args.ends.now c.args.tail.now c.args.path.now c.args.machines.now c.args.places.now (get_or c.args.machines.now (get_or c.args.path.now c.args.i 0) 0) (get_or c.args.places.now (get_or c.args.path.now c.args.i 0) 0) (get_or c.args.places.now (get_or c.args.path.now c.args.r 0) 0) c.if-last-first.false e c.offer_block.ensures
