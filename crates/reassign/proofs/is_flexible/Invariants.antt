-- `reassign::is_flexible` meets its contract. The loop's invariant, for whatever problem the table holds: the answer is whether any of those left has two candidates.
use mathlib.Core.Path.{◌≡◌}
use Prim.Native.Nat.{◌-◌, ◌≤◌}
use lib.Dec.{leb}
use lib.ListN.{length}
use Rattle.plan.specs.Problem.{Problem}
use Rattle.tables.specs.Tabled.{Tabled}
use Rattle.reassign.specs.Reassignments.{any_from, flexible}
use Rattle.reassign.proofs.is_flexible.Given as goal

abbrev pub invariant-loop-a : goal.invariant-loop-a
invariant-loop-a l = (p : Problem) → Tabled p l.table → l.n ≡ p.n → p.n ≤ 128 → any_from (λ x. leb 2 (length (p.candidates x))) (l.n - l.a) l.a ≡ flexible p
