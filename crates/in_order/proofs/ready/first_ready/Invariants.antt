-- `in_order::ready::first_ready` meets its contract. The loop's invariant: the first ready of the rest is the first of all.
use Prim.Native.Nat.{ℕ, ◌+◌, ◌<◌}
use Rattle.graph.specs.Counting.{count_of, Below}
use Rattle.plan.specs.Problem.{Problem}
use Rattle.in_order.specs.Waiting.{Naming, Told}
use Rattle.in_order.proofs.ReadyLaws.{Seeking}
use Rattle.in_order.proofs.ready.first_ready.Given as goal

abbrev pub invariant-loop-a : goal.invariant-loop-a
invariant-loop-a l = (p : Problem) → Naming p l.table → Below p.n l.activities → ((a : ℕ) → 0 < count_of a l.activities → Told p l.pending a) → Seeking p l.pending l.activities l.from (l.from + l.a-index)
