use Rattle.search.proofs.SavingLaws.{Saving}
use Rattle.search.proofs.saving.save_tasks.Given as goal

abbrev pub invariant-loop-i : goal.invariant-loop-i
invariant-loop-i l = Saving l.table l.order l.tasks l.i
