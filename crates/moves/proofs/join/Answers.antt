-- `moves::join` meets its contract. Assumes nothing.
use Prim.Native.Nat.{◌+◌, ◌*◌}
use mathlib.Core.Path.{refl, ◌∙◌}
use native.Mathlib.Omega.{arith}
use lib.ListN.{get_or, length-set}
use Rattle.moves.proofs.CellLaws.{fit_set, still_roomy, part_long, line_long, joined_put}
use Rattle.moves.proofs.join.Goals as goal

pub overflow_add-len : goal.overflow_add-len
overflow_add-len c = let l = line_long c.args.cells.now c.args.lens.now c.args.machine in
    let f = c.requires.0.fit c.args.machine in
    omega (arith, c.requires)

pub overflow_add-end : goal.overflow_add-end
overflow_add-end c = let l = line_long c.args.cells.now c.args.lens.now c.args.machine in
    let f = c.requires.0.fit c.args.machine in
    omega (arith, c.requires)

pub slice_bounds-put_in-end : goal.slice_bounds-put_in-end
slice_bounds-put_in-end c = let l = line_long c.args.cells.now c.args.lens.now c.args.machine in
    let f = c.requires.0.fit c.args.machine in
    omega (arith, c.requires)

pub put_in-requires : goal.put_in-requires
put_in-requires c = let f = c.requires.0.fit c.args.machine in
    let l = line_long c.args.cells.now c.args.lens.now c.args.machine in
    let p = part_long c.requires.0 c.args.machine c.requires.1 (get_or c.args.lens.now c.args.machine 0 + 1) (128 * c.args.machine + (get_or c.args.lens.now c.args.machine 0 + 1)) refl (omega (arith, c.requires)) in
    omega (arith, c.requires)

pub returns : goal.returns
returns c = let f = c.requires.0.fit c.args.machine in
    let l = line_long c.args.cells.now c.args.lens.now c.args.machine in
    record {
      lens_after = joined_put c.requires.0 c.args.machine c.requires.1 c.args.at c.args.a _ (128 * c.args.machine + (get_or c.args.lens.now c.args.machine 0 + 1)) refl (omega (arith, c.requires)) c.put_in.ensures;
      holds = record {
        roomy = still_roomy c.requires.0 c.args.machine c.requires.1 (128 * c.args.machine + (get_or c.args.lens.now c.args.machine 0 + 1)) c.put_in.new.line (omega arith) (omega (arith, c.requires)) c.put_in.auto.line;
        sixteen = length-set c.args.lens.now c.args.machine (get_or c.args.lens.now c.args.machine 0 + 1) ∙ c.requires.0.sixteen;
        fit = fit_set c.args.lens.now c.args.machine (get_or c.args.lens.now c.args.machine 0 + 1) (omega (arith, c.requires.0.sixteen, c.requires)) c.requires.0.fit (omega (arith, c.requires));
      };
    }
