-- `tables::owners::fill_befores` meets its contract. The loop's invariant: the cells passed are filled.
use Rattle.tables.specs.Columns.{Filled, before_in}
use Rattle.tables.proofs.owners.fill_befores.Given as goal

abbrev pub invariant-loop-a : goal.invariant-loop-a
invariant-loop-a l = Filled l.a (before_in l.owners) l.befores
