-- `active::seats::fill_on` meets its contract. The loop's invariant: the cells passed are given.
use Rattle.words.specs.Words.{words}
use Rattle.plan.specs.Input.{genes_of}
use Rattle.active.specs.Kept.{Manned}
use Rattle.active.proofs.seats.fill_on.Given as goal

abbrev pub invariant-loop-a : goal.invariant-loop-a
invariant-loop-a l = Manned (genes_of (words l.s) l.z) l.a l.on
