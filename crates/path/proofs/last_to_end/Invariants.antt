-- `path::last_to_end` meets its contract. The loop's invariant: what is left, from the last so far, gives the same activity.
use Prim.Native.Nat.{◌+◌}
use Rattle.path.proofs.LastLaws.{Seeking}
use Rattle.path.proofs.last_to_end.Given as goal

abbrev pub invariant-loop-a : goal.invariant-loop-a
invariant-loop-a l = Seeking l.order l.ends l.last (l.a-index + 1)
