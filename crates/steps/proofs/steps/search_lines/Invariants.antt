use Rattle.words.specs.Words.{words}
use Rattle.plan.specs.Input.{problem_of}
use Rattle.lines.specs.Lines.{lines_in}
use Rattle.search.specs.Search.{searched_to}
use Rattle.steps.proofs.LoopLaws.{Going}
use Rattle.steps.proofs.steps.search_lines.Given as goal

abbrev pub invariant-loop-step : goal.invariant-loop-step
invariant-loop-step l = Going (problem_of (words l.s) l.z) (searched_to (problem_of (words l.s) l.z) l.limit (lines_in l.initial.cells l.initial.lengths)) l.limit l.cells l.lengths l.order l.starts l.ends l.taken l.begun l.done l.tasks l.machines l.pairs l.left l.sofar.best l.sofar.found l.step
