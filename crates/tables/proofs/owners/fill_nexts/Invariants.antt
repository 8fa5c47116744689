-- `tables::owners::fill_nexts` meets its contract. The loop's invariant: the cells passed are filled.
use Rattle.tables.specs.Columns.{Filled, next_in}
use Rattle.tables.proofs.owners.fill_nexts.Given as goal

abbrev pub invariant-loop-a : goal.invariant-loop-a
invariant-loop-a l = Filled l.a (next_in l.owners l.n) l.nexts
