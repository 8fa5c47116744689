-- `moves::swap_on` meets its contract. Assumes nothing.
use Prim.Native.Nat.{◌+◌, ◌*◌}
use mathlib.Core.Path.{refl, ◌∙◌}
use native.Mathlib.Omega.{arith}
use lib.ListN.{get_or}
use Rattle.lines.specs.Lines.{lines_in}
use Rattle.moves.specs.Moves.{swap_at, line_of}
use Rattle.moves.proofs.LineLaws.{length_swapped, neighbours_swapped}
use Rattle.moves.proofs.CellLaws.{part_long, line_long, line_put}
use Rattle.moves.proofs.swap_on.Goals as goal

pub overflow_add-at : goal.overflow_add-at
overflow_add-at c = let l = line_long c.args.cells.now c.args.lens.now c.args.machine in
    let f = c.requires.0.fit c.args.machine in
    omega (arith, c.requires.1.next)

pub swap-requires : goal.swap-requires
swap-requires c = let l = line_long c.args.cells.now c.args.lens.now c.args.machine in
    let p = part_long c.requires.0 c.args.machine c.requires.1.machine (get_or c.args.lens.now c.args.machine 0) (128 * c.args.machine + get_or c.args.lens.now c.args.machine 0) refl (c.requires.0.fit c.args.machine) in
    record { a_in_bounds = omega (arith, c.requires.1.next); b_in_bounds = omega (arith, c.requires.1.next) }

pub returns : goal.returns
returns c =
    let l = line_long c.args.cells.now c.args.lens.now c.args.machine in
    let p = part_long c.requires.0 c.args.machine c.requires.1.machine (get_or c.args.lens.now c.args.machine 0) (128 * c.args.machine + get_or c.args.lens.now c.args.machine 0) refl (c.requires.0.fit c.args.machine) in
    line_put c.requires.0 c.args.machine c.requires.1.machine (λ l. swap_at l c.args.at) _ (128 * c.args.machine + get_or c.args.lens.now c.args.machine 0) refl (c.swap.ensures.after ∙ neighbours_swapped _ c.args.at (omega (arith, c.requires.1.next))) (length_swapped (line_of (lines_in c.args.cells.now c.args.lens.now) c.args.machine) c.args.at)
