-- `tables::owners::fill_categories` meets its contract. The loop's invariant: the cells passed are filled.
use Rattle.words.specs.Words.{words}
use Rattle.plan.specs.Input.{problem_of, task_of}
use Rattle.tables.specs.Columns.{Filled}
use Rattle.tables.proofs.owners.fill_categories.Given as goal

abbrev pub invariant-loop-a : goal.invariant-loop-a
invariant-loop-a l = Filled l.a (λ b. (problem_of (words l.s) l.z).category (task_of (words l.s) l.z b)) l.categories
