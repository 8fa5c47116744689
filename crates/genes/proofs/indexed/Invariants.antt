-- `genes::indexed` meets its contract. The loop's invariant: the activities held, and what the words left give, are what the order gives; `named`
-- counts how often each task was named. Assumes nothing.
use Rattle.words.specs.Words.{words}
use Rattle.plan.specs.Input.{problem_of, genes_of}
use Rattle.genes.proofs.OrderLaws.{Indexing}
use Rattle.genes.proofs.indexed.Given as goal

abbrev pub invariant-loop-k : goal.invariant-loop-k
invariant-loop-k l = Indexing (problem_of (words l.s) l.z) (genes_of (words l.s) l.z) l.firsts l.initial.activities l.activities l.named l.count l.k
