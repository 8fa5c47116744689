-- `tables::owners::fill_releases` meets its contract. The loop's invariant: the cells passed are filled.
use Rattle.words.specs.Words.{words}
use Rattle.plan.specs.Input.{problem_of}
use Rattle.tables.specs.Columns.{Filled}
use Rattle.tables.proofs.owners.fill_releases.Given as goal

abbrev pub invariant-loop-a : goal.invariant-loop-a
invariant-loop-a l = Filled l.a (problem_of (words l.s) l.z).release l.releases
