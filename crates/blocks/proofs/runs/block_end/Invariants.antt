-- `blocks::runs::block_end` meets its contract. The loop's invariant: the run goes on up to here.
use Prim.Native.Nat.{◌-◌}
use lib.ListN.{length, get_or}
use Rattle.blocks.proofs.RunLaws.{Extending}
use Rattle.blocks.proofs.runs.block_end.Given as goal

abbrev pub invariant-loop-last : goal.invariant-loop-last
invariant-loop-last l = Extending (λ a. get_or l.machines a 0) (λ a. get_or l.places a 0) l.path l.i l.last

abbrev pub decreases-loop-last : goal.decreases-loop-last
decreases-loop-last l = length l.path - l.last
