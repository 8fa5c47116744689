-- `moves::line::shift_up` meets its contract. The loop's invariant: the line is the one shifted so far. Assumes nothing.
use Prim.Native.Nat.{◌+◌, ◌<◌}
use mathlib.Core.Path.{◌≡◌, sym, ap, ◌∙◌}
use native.Mathlib.Omega.{arith}
use lib.ListN.{length}
use Rattle.moves.specs.Moves.{shifted}
use Rattle.moves.proofs.LineLaws.{stays, length-shifted, swapped_on}
use Rattle.moves.proofs.line.shift_up.Goals as goal

pub loop-k-init : goal.loop-k-init
loop-k-init c = (omega arith, omega arith, sym (stays c.args.line.now c.args.from (omega arith)))

pub swap-requires : goal.swap-requires
swap-requires c = let long = ap length c.loop-k.invariant.2 in
    let same = length-shifted c.args.line.now c.args.from c.loop-k.k (omega arith) in
    record { a_in_bounds = omega (arith, long, same); b_in_bounds = omega (arith, long, same) }

pub loop-k-preserved : goal.loop-k-preserved
loop-k-preserved c = (omega arith, omega arith, c.swap.ensures.after ∙ swapped_on c.args.line.now c.args.from (omega arith) c.loop-k.line c.loop-k.k (omega arith) c.loop-k.invariant.2)

pub returns : goal.returns
returns c = c.loop-k.invariant.2 ∙ ap (shifted c.args.line.now c.args.from) (omega arith)
