-- `moves::relinking::relink_on` meets its contract. Assumes nothing.
use native.Mathlib.Omega.{arith}
use Rattle.lines.proofs.LinkingLoops.{fit_well}
use Rattle.moves.proofs.RelinkLaws.{on_asks, on_relinked}
use Rattle.moves.proofs.relinking.relink_on.Goals as goal

pub overflow_add-end : goal.overflow_add-end
overflow_add-end c = let f = fit_well c.args.cells.now c.args.lens.now c.requires.1 c.args.machine in omega (arith, c.requires.3)

pub slice_bounds-relink_line-end : goal.slice_bounds-relink_line-end
slice_bounds-relink_line-end c = let f = fit_well c.args.cells.now c.args.lens.now c.requires.1 c.args.machine in omega (arith, c.requires.0, c.requires.3)

pub relink_line-requires : goal.relink_line-requires
relink_line-requires c = on_asks c.args.cells.now c.args.lens.now c.requires.0 c.requires.1 c.args.machine c.requires.3 c.requires.2

pub returns : goal.returns
returns c = on_relinked c.args.cells.now c.args.lens.now c.requires.0 c.requires.1 c.args.machine c.requires.3 _ c.relink_line.ensures
