-- `moves::line::put_in` meets its contract: a shift from the end. Assumes nothing.
use Prim.Native.Nat.{◌-◌}
use mathlib.Core.Path.{◌∙◌}
use native.Mathlib.Omega.{arith}
use lib.ListN.{length, length-set}
use Rattle.moves.proofs.LineLaws.{from_last}
use Rattle.moves.proofs.line.put_in.Goals as goal

pub shift_down-requires : goal.shift_down-requires
shift_down-requires c = simp length-set (omega arith)

pub shape_of-line : goal.shape_of-line
shape_of-line c = c.shift_down.auto.line ∙ length-set c.args.line.now (length c.args.line.now - 1) c.args.a

pub returns : goal.returns
returns c = c.shift_down.ensures ∙ from_last c.args.line.now c.args.at c.args.a (omega arith)
