-- `sheet::first_rows` meets its contract. The loop's invariant: each cell holds the first row of its activity among the rows from i on.
use Rattle.sheet.proofs.SearchLaws.{Filling}
use Rattle.sheet.proofs.rows.first_rows.Given as goal

abbrev pub invariant-loop-i : goal.invariant-loop-i
invariant-loop-i l = Filling l.n l.machines l.rows l.firsts l.i
