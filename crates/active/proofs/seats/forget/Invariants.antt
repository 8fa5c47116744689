-- `active::seats::forget` meets its contract. The loop's invariant: the seats of the tasks passed are forgotten.
use Prim.Native.Nat.{◌≤◌}
use mathlib.Core.Path.{◌≡◌}
use Rattle.active.specs.Kept.{forgotten}
use Rattle.active.proofs.seats.forget.Given as goal

abbrev pub invariant-loop-k : goal.invariant-loop-k
invariant-loop-k l = (l.k ≤ l.tasks) × (l.kept ≡ forgotten l.n l.m l.k l.initial.kept)
