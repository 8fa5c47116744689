-- `looking::kept::put_moves` meets its contract. The loop's invariant: those that are left, put from here on, give all of them.
use lib.ListN.{drop}
use Rattle.ranking.specs.Ranking.{ranked}
use Rattle.trial.specs.Trial.{moves_of}
use Rattle.looking.specs.Rows.{rows_of}
use Rattle.looking.proofs.RowLaws.{Putting}
use Rattle.looking.proofs.kept.put_moves.Given as goal

abbrev pub invariant-loop-k : goal.invariant-loop-k
invariant-loop-k l = Putting (rows_of (moves_of (ranked l.three))) (rows_of (moves_of (drop l.k (ranked l.three)))) l.at l.initial.rows l.rows l.next
