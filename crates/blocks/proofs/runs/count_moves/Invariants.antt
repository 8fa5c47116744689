-- `blocks::runs::count_moves` meets its contract. The loop's invariant: those counted and those of the rest of the path are all.
use Prim.Native.Nat.{◌-◌}
use lib.ListN.{length, get_or}
use Rattle.blocks.proofs.RunLaws.{Counting}
use Rattle.blocks.proofs.runs.count_moves.Given as goal

abbrev pub invariant-loop-i : goal.invariant-loop-i
invariant-loop-i l = Counting (λ a. get_or l.machines a 0) (λ a. get_or l.places a 0) l.path l.count l.i

abbrev pub decreases-loop-i : goal.decreases-loop-i
decreases-loop-i l = length l.path - l.i
