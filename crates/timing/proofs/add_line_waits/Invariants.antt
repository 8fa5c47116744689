-- `timing::add_line_waits` meets its contract. The loop's invariant: the counts passed are right.
use Rattle.timing.proofs.CountLaws.{Adding}
use Rattle.timing.proofs.add_line_waits.Given as goal

abbrev pub invariant-loop-a : goal.invariant-loop-a
invariant-loop-a l = Adding l.waits l.before l.counts l.a
