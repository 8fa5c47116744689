-- `active::seats::begin` meets its contract. The loop's invariant: the rows are right for the tasks passed.
use Rattle.words.specs.Words.{words}
use Rattle.plan.specs.Input.{problem_of}
use Rattle.active.proofs.KeptLaws.{Beginning}
use Rattle.active.proofs.seats.begin.Given as goal

abbrev pub invariant-loop-t : goal.invariant-loop-t
invariant-loop-t l = Beginning (problem_of (words l.s) l.z) l.kept l.first l.t
