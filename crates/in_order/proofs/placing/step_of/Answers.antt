-- `in_order::placing::step_of` meets its contract: the cell of the activity's task.
use Prim.Native.Nat.{ℕ}
use mathlib.Core.Path.{ap, ◌∙◌}
use native.Mathlib.Omega.{arith}
use Rattle.board.specs.Board.{last_placed}
use Rattle.in_order.proofs.placing.step_of.Goals as goal

pub owner-t-requires : goal.owner-t-requires
owner-t-requires c = (omega (arith, c.requires.here, c.requires.few), c.requires.tabled.sized)

pub last_placed-requires : goal.last_placed-requires
last_placed-requires c = omega (arith, c.requires.owned, c.owner-t.ensures c.requires.problem c.requires.tabled c.requires.here)

pub returns : goal.returns
returns c p t h = c.last_placed.ensures ∙ ap (λ (x : ℕ). last_placed c.args.n c.args.steps.now x) (c.owner-t.ensures p t h)
