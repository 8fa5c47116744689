-- `path::critical_path` meets its contract. The loop's invariant, for whatever problem and lines are shown: what is left to walk, before
-- the path so far, is the whole path; the cells before it are as they were.
use Prim.Native.Nat.{◌-◌}
use Rattle.plan.specs.Problem.{Problem}
use Rattle.lines.specs.Lines.{Lines}
use Rattle.path.specs.Placing.{placed}
use Rattle.path.specs.Walking.{Walkable}
use Rattle.path.proofs.WalkLaws.{Space, Walking}
use Rattle.path.proofs.critical_path.Given as goal

abbrev pub invariant-loop-b : goal.invariant-loop-b
invariant-loop-b l = Space l.machines l.initial.path l.path l.a l.at
    × ((p : Problem) (lines : Lines) (w : Walkable p lines l.table l.before l.machines l.ways (placed l.order l.starts l.ends)) → Walking p lines (placed l.order l.starts l.ends) w.falling.rank l.path l.a l.at)

abbrev pub decreases-loop-b : goal.decreases-loop-b
decreases-loop-b l = l.at
