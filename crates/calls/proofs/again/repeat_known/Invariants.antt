use Rattle.words.specs.Words.{words}
use Rattle.plan.specs.Input.{problem_of}
use Rattle.lines.specs.Lines.{lines_in}
use Rattle.calls.proofs.AgainLaws.{Going}
use Rattle.calls.proofs.again.repeat_known.Given as goal

abbrev pub invariant-loop : goal.invariant-loop
invariant-loop l = Going (problem_of (words l.s) l.z) (lines_in l.cells l.lens) l.times l.before l.after l.on l.places l.order l.begun l.done l.counter
