-- `active::scanning::put_ranks` meets its contract. The loop's invariant: putting the rest upon the ranks so far gives what putting all does.
use Rattle.active.proofs.RankLaws.{Ranking}
use Rattle.active.proofs.scanning.put_ranks.Given as goal

abbrev pub invariant-loop-i : goal.invariant-loop-i
invariant-loop-i l = Ranking l.activities l.initial.ranks l.ranks l.i
