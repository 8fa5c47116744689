use Rattle.rows.proofs.RowLaws.{Gathering}
use Rattle.rows.proofs.gather.Given as goal

abbrev pub invariant-loop-i : goal.invariant-loop-i
invariant-loop-i g l = (d : g.row.T.Denot) → Gathering l.values l.order l.initial.to l.to l.i d
