-- `reassign::position::leading_ended` meets its contract. What leads from the turn on is the rest of what leads.
use lib.Dec.{leb}
use lib.ListN.{get_or}
use Rattle.reassign.proofs.PositionLaws.{Leading}
use Rattle.reassign.proofs.position.leading_ended.Given as goal

abbrev pub invariant-loop-i : goal.invariant-loop-i
invariant-loop-i l = Leading (λ x. leb (get_or l.ends x 0) l.start) l.line l.i
