-- `blocks::stretch::longest` meets its contract. The loop's invariant: those passed, from the position on, were gone through; whatever the
-- problem, what is behind the position is not long.
use Prim.Native.Nat.{ℕ, ◌+◌, ◌-◌, ◌*◌, ◌^◌, ◌≤◌}
use mathlib.Core.List.{List}
use Rattle.plan.specs.Problem.{Problem}
use Rattle.moves.specs.Moves.{shifted}
use Rattle.path.specs.Placing.{placed}
use Rattle.blocks.specs.Estimates.{end_before, after_at}
use Rattle.blocks.specs.Weighing.{Weighed, Low, Lined, HeadsHeld}
use Rattle.blocks.proofs.StretchLaws.{Passing}
use Rattle.blocks.proofs.stretch.longest.Given as goal

abbrev pub invariant-loop-at : goal.invariant-loop-at
invariant-loop-at l = (l.first ≤ l.at)
    × ((p : Problem) (order : List ℕ) → Weighed p l.table l.starts l.ends → Low p.n l.tail → Lined p.n l.line → HeadsHeld p (placed order l.starts l.ends) (shifted l.line l.from l.to) (end_before l.ends l.line l.first) l.first l.last l.heads → Passing p (placed order l.starts l.ends) l.tail (shifted l.line l.from l.to) (end_before l.ends l.line l.first) (after_at (placed order l.starts l.ends) l.tail l.line (l.last + 1)) l.first l.last l.next l.most l.at)
    × (l.next ≤ 2 ^ 42 + (l.last + 1 - l.at) * 2 ^ 34)
