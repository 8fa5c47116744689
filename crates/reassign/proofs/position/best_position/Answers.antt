-- `reassign::position::best_position` meets its contract. The loop's invariant: the least so far, with the positions left, gives the least of all.
use Rattle.reassign.proofs.PositionLaws.{chosen, shorter, no_shorter}
use Rattle.reassign.proofs.position.best_position.Goals as goal
use Rattle.reassign.proofs.position.best_position.Goals.{then-here-length, else-here-length}

pub loop-i-preserved : goal.loop-i-preserved
loop-i-preserved c = elim c.if-here-length.branch [
  | then-here-length w ↦ rw (w.place-is, w.length-is) (shorter c.loop-i.invariant c.loop-i-test.true c.length_at-here.ensures w.if-here-length.true)
  | else-here-length w ↦ rw (w.place-is, w.length-is) (no_shorter c.loop-i.invariant c.loop-i-test.true c.length_at-here.ensures w.if-here-length.false)
]

pub returns : goal.returns
returns c = chosen c.loop-i.invariant c.loop-i-test.false
