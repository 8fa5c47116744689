-- `path::following::after_all` meets its contract. The loop's invariant: what is left, with the longest so far, has the same greatest.
use Prim.Native.Nat.{◌-◌, ◌+◌}
use lib.ListN.{get_or}
use Rattle.timing.proofs.NamedLaws.{Looking}
use Rattle.path.proofs.following.after_all.Given as goal

abbrev pub invariant-loop-x : goal.invariant-loop-x
invariant-loop-x l = Looking (λ x. get_or l.ends x 0 - get_or l.starts x 0 + get_or l.tail x 0) l.list l.first l.longest l.x-index
