-- `genes::fill_machines` meets its contract. The loop's invariant: the cells of the activities passed are filled, and `all` says whether each has
-- a machine. Assumes nothing.
use Rattle.genes.proofs.MachineLaws.{Filling}
use Rattle.plan.specs.Input.{genes_of}
use Rattle.words.specs.Words.{words}
use Rattle.genes.proofs.fill_machines.Given as goal

abbrev pub invariant-loop-a : goal.invariant-loop-a
invariant-loop-a l = Filling (genes_of (words l.s) l.z) l.z.activities l.initial.machines l.machines l.all l.a
