-- `tables::spans::fill_machines` meets its contract. The loop's invariant: the cells passed are filled.
use Prim.Native.Nat.{◌+◌, ◌*◌}
use Rattle.words.specs.Words.{words}
use Rattle.tables.specs.Columns.{Filled, row_sum}
use Rattle.tables.proofs.spans.fill_machines.Given as goal

abbrev pub invariant-loop-m : goal.invariant-loop-m
invariant-loop-m l = Filled l.m (λ i. row_sum (words l.s) (l.first + 3 * i)) l.spans
