-- `moves::leave` meets its contract. Assumes nothing.
use Prim.Native.Nat.{◌+◌, ◌-◌, ◌*◌}
use mathlib.Core.Path.{refl, ◌∙◌}
use native.Mathlib.Omega.{arith}
use lib.ListN.{get_or, length-set}
use Rattle.moves.proofs.CellLaws.{fit_set, still_roomy, part_long, line_long, left_put}
use Rattle.moves.proofs.leave.Goals as goal

pub overflow_add-end : goal.overflow_add-end
overflow_add-end c = let l = line_long c.args.cells.now c.args.lens.now c.args.machine in
    let f = c.requires.0.fit c.args.machine in
    omega (arith, c.requires)

pub slice_bounds-take_out-end : goal.slice_bounds-take_out-end
slice_bounds-take_out-end c = let l = line_long c.args.cells.now c.args.lens.now c.args.machine in
    let f = c.requires.0.fit c.args.machine in
    omega (arith, c.requires)

pub take_out-requires : goal.take_out-requires
take_out-requires c = let f = c.requires.0.fit c.args.machine in
    let l = line_long c.args.cells.now c.args.lens.now c.args.machine in
    let p = part_long c.requires.0 c.args.machine c.requires.1 (get_or c.args.lens.now c.args.machine 0) (128 * c.args.machine + (get_or c.args.lens.now c.args.machine 0)) refl (omega (arith, c.requires)) in
    omega (arith, c.requires)

pub overflow_sub-lens : goal.overflow_sub-lens
overflow_sub-lens c = let l = line_long c.args.cells.now c.args.lens.now c.args.machine in
    let f = c.requires.0.fit c.args.machine in
    omega (arith, c.requires)

pub returns : goal.returns
returns c = let f = c.requires.0.fit c.args.machine in
    let l = line_long c.args.cells.now c.args.lens.now c.args.machine in
    record {
      lens_after = left_put c.requires.0 c.args.machine c.requires.1 c.args.at _ (128 * c.args.machine + get_or c.args.lens.now c.args.machine 0) _ refl (omega arith) c.requires.2 c.take_out.ensures;
      holds = record {
        roomy = still_roomy c.requires.0 c.args.machine c.requires.1 (128 * c.args.machine + get_or c.args.lens.now c.args.machine 0) c.take_out.new.line (omega arith) (omega (arith, c.requires)) c.take_out.auto.line;
        sixteen = length-set c.args.lens.now c.args.machine (get_or c.args.lens.now c.args.machine 0 - 1) ∙ c.requires.0.sixteen;
        fit = fit_set c.args.lens.now c.args.machine (get_or c.args.lens.now c.args.machine 0 - 1) (omega (arith, c.requires.0.sixteen, c.requires)) c.requires.0.fit (omega (arith, c.requires));
      };
    }
