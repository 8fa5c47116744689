-- `tables::changes::put_changes` meets its contract. The loop's invariant: the cells hold the entries from e on.
use Prim.Native.Nat.{◌+◌, ◌*◌, ◌-◌}
use Rattle.words.specs.Words.{words}
use Rattle.tables.specs.Columns.{Coded}
use Rattle.tables.proofs.changes.put_changes.Given as goal

abbrev pub invariant-loop-e : goal.invariant-loop-e
invariant-loop-e l = Coded (words l.s) (l.count - l.e) (l.at + 1 + 4 * l.e) l.changes
