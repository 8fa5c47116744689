-- `plan::transports` meets its contract. The loop's invariant: the rows passed are filled.
use mathlib.Core.Path.{◌≡◌}
use Rattle.words.specs.Words.{words}
use Rattle.plan.specs.Input.{problem_of}
use Rattle.plan.specs.Found.{rows_of}
use Rattle.plan.proofs.transports.Given as goal

abbrev pub invariant-loop-from : goal.invariant-loop-from
invariant-loop-from l = l.rows ≡ rows_of (problem_of (words l.s) l.z).transport l.z.machines l.from
