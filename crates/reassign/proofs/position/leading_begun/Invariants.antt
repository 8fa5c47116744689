-- `reassign::position::leading_begun` meets its contract. What leads from the turn on is the rest of what leads.
use lib.Dec.{ltb}
use lib.ListN.{get_or}
use Rattle.reassign.proofs.PositionLaws.{Leading}
use Rattle.reassign.proofs.position.leading_begun.Given as goal

abbrev pub invariant-loop-i : goal.invariant-loop-i
invariant-loop-i l = Leading (λ x. ltb (get_or l.starts x 0) l.end) l.line l.i
