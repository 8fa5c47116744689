-- `active::scanning::scan` meets its contract. Both loops' invariants: what is left to scan gives, upon what was scanned, what the whole does.
use Rattle.words.specs.Words.{words}
use Rattle.plan.specs.Input.{problem_of, genes_of}
use Rattle.active.proofs.ScanLaws.{Stepping, Scanning}
use Rattle.active.proofs.scanning.scan.Given as goal

abbrev pub invariant-loop-a : goal.invariant-loop-a
invariant-loop-a l = Stepping l.on l.initial.settled l.initial.kept l.initial.offered l.initial.found l.settled l.kept l.offered l.found l.initial.a l.last l.a

abbrev pub invariant-tasks : goal.invariant-tasks
invariant-tasks l = Scanning (problem_of (words l.s) l.z) (genes_of (words l.s) l.z) l.initial.settled l.initial.offered l.settled l.kept l.ends l.lines l.steps l.offered l.found l.task
