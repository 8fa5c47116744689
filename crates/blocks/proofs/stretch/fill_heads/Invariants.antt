-- `blocks::stretch::fill_heads` meets its contract. The loop's invariant: the heads of those passed are written, and `ready` is the last of them
-- plus its span; whatever the problem, it is not late.
use Prim.Native.Nat.{ℕ, ◌+◌, ◌-◌, ◌*◌, ◌^◌, ◌≤◌}
use mathlib.Core.List.{List}
use Rattle.plan.specs.Problem.{Problem}
use Rattle.moves.specs.Moves.{shifted}
use Rattle.path.specs.Placing.{placed}
use Rattle.blocks.specs.Estimates.{end_before}
use Rattle.blocks.specs.Weighing.{Weighed, Lined}
use Rattle.blocks.proofs.StretchLaws.{Heading}
use Rattle.blocks.proofs.stretch.fill_heads.Given as goal

abbrev pub invariant-loop-k : goal.invariant-loop-k
invariant-loop-k l = (l.ready ≤ 2 ^ 41 + (l.k - l.first) * 2 ^ 34)
    × ((p : Problem) (order : List ℕ) → Weighed p l.table l.starts l.ends → Lined p.n l.line → Heading p (placed order l.starts l.ends) (shifted l.line l.from l.to) (end_before l.ends l.line l.first) l.first l.heads l.ready l.k)
