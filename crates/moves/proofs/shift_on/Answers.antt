-- `moves::shift_on` meets its contract. Assumes nothing.
use Prim.Native.Nat.{◌+◌, ◌*◌}
use mathlib.Core.Path.{refl}
use native.Mathlib.Omega.{arith}
use lib.ListN.{get_or}
use Rattle.lines.specs.Lines.{lines_in}
use Rattle.moves.specs.Moves.{shifted, line_of}
use Rattle.moves.proofs.LineLaws.{length-shifted}
use Rattle.moves.proofs.CellLaws.{part_long, line_long, line_put}
use Rattle.moves.proofs.shift_on.Goals as goal

pub overflow_add-end : goal.overflow_add-end
overflow_add-end c = let f = c.requires.0.fit c.args.machine in
    omega arith

pub slice_bounds-shift-end : goal.slice_bounds-shift-end
slice_bounds-shift-end c = let f = c.requires.0.fit c.args.machine in
    omega arith

pub shift-requires : goal.shift-requires
shift-requires c = let l = line_long c.args.cells.now c.args.lens.now c.args.machine in
    let p = part_long c.requires.0 c.args.machine c.requires.1.machine (get_or c.args.lens.now c.args.machine 0) (128 * c.args.machine + get_or c.args.lens.now c.args.machine 0) refl (c.requires.0.fit c.args.machine) in
    (omega (arith, c.requires.1.from), omega (arith, c.requires.1.to))

pub returns : goal.returns
returns c = line_put c.requires.0 c.args.machine c.requires.1.machine (λ l. shifted l c.args.from c.args.to) _ (128 * c.args.machine + get_or c.args.lens.now c.args.machine 0) refl c.shift.ensures (length-shifted (line_of (lines_in c.args.cells.now c.args.lens.now) c.args.machine) c.args.from c.args.to c.requires.1.from)
