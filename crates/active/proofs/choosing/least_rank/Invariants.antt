-- `active::choosing::least_rank` meets its contract. The loop's invariant: the best so far is the least of those looked at.
use Rattle.active.specs.Kept.{seat_in}
use Rattle.active.proofs.ChoiceLaws.{Picking}
use Rattle.active.proofs.choosing.least_rank.Given as goal

abbrev pub invariant-loop-k : goal.invariant-loop-k
invariant-loop-k l = Picking l.ranks (seat_in l.kept) l.lead l.n l.tasks l.best l.k
