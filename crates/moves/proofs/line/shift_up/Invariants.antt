-- `moves::line::shift_up` meets its contract. The loop's invariant: the line is the one shifted so far. Assumes nothing.
use Prim.Native.Nat.{◌≤◌}
use mathlib.Core.Path.{◌≡◌}
use Rattle.moves.specs.Moves.{shifted}
use Rattle.moves.proofs.line.shift_up.Given as goal

abbrev pub invariant-loop-k : goal.invariant-loop-k
invariant-loop-k l = (l.from ≤ l.k) × (l.k ≤ l.to) × (l.line ≡ shifted l.initial.line l.from l.k)
