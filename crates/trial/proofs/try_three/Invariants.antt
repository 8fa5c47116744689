-- `trial::try_three` meets its contract. The loop's invariant: the moves left, after what is held, give what all of them give. Assumes nothing.
use Rattle.words.specs.Words.{words}
use Rattle.plan.specs.Input.{problem_of}
use Rattle.lines.specs.Lines.{lines_in}
use Rattle.trial.specs.Taboo.{forbidden}
use Rattle.trial.proofs.TryLaws.{Trying}
use Rattle.trial.proofs.try_three.Given as goal

abbrev pub invariant-loop-k : goal.invariant-loop-k
invariant-loop-k l = Trying (problem_of (words l.s) l.z) l.z.activities (lines_in l.initial.cells l.lens) l.lens (forbidden l.step l.pairs l.left (lines_in l.initial.cells l.lens)) l.best l.three l.initial.kept l.kept l.k l.cells l.before l.after l.machines l.places l.counts l.stack l.order l.starts l.ends l.taken l.begun l.done
