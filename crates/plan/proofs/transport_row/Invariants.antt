-- `plan::transport_row` meets its contract. The loop's invariant: the cells passed are filled.
use mathlib.Core.Path.{◌≡◌}
use Rattle.words.specs.Words.{words}
use Rattle.plan.specs.Input.{problem_of}
use Rattle.plan.specs.Found.{row_to}
use Rattle.plan.proofs.transport_row.Given as goal

abbrev pub invariant-loop-to : goal.invariant-loop-to
invariant-loop-to l = l.row ≡ row_to ((problem_of (words l.s) l.z).transport l.from) l.to
