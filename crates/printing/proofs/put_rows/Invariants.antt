use Rattle.printing.proofs.PrintingLaws.{Rows}
use Rattle.printing.proofs.put_rows.Given as goal

abbrev pub invariant-loop-i : goal.invariant-loop-i
invariant-loop-i l = Rows l.initial.line l.at l.activities l.machines l.starts l.ends l.setups l.line l.next l.i
