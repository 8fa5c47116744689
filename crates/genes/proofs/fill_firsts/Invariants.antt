-- `genes::fill_firsts` meets its contract. The loop's invariant: the cells of the tasks passed are filled, and `first` is the next task's first
-- activity. Assumes nothing.
use Rattle.words.specs.Words.{words}
use Rattle.genes.proofs.TaskLaws.{Numbering}
use Rattle.genes.proofs.fill_firsts.Given as goal

abbrev pub invariant-loop-t : goal.invariant-loop-t
invariant-loop-t l = Numbering (words l.s) l.z l.initial.firsts l.firsts l.first l.t
