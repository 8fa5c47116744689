-- `reassign::position::best_position` meets its contract. The loop's invariant: the least so far, with the positions left, gives the least of all.
use Rattle.reassign.specs.Reassignments.{length_at}
use Rattle.reassign.specs.Reassigning.{unordered}
use Rattle.reassign.proofs.PositionLaws.{Choosing}
use Rattle.reassign.proofs.position.best_position.Given as goal

abbrev pub invariant-loop-i : goal.invariant-loop-i
invariant-loop-i l = Choosing (length_at (unordered l.starts l.ends) l.tail l.line l.way) l.first l.last l.place l.length l.i
