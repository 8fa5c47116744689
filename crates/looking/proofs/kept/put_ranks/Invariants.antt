-- `looking::kept::put_ranks` meets its contract. The loop's invariant: those that are left, put from here on, give all of them.
use lib.ListN.{drop}
use Rattle.ranking.specs.Ranking.{ranked}
use Rattle.looking.specs.Rows.{ranks_of}
use Rattle.looking.proofs.RowLaws.{Putting}
use Rattle.looking.proofs.kept.put_ranks.Given as goal

abbrev pub invariant-loop-k : goal.invariant-loop-k
invariant-loop-k l = Putting (ranks_of (ranked l.three)) (ranks_of (drop l.k (ranked l.three))) l.at l.initial.ranks l.ranks l.next
