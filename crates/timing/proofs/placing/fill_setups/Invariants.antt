use Rattle.words.specs.Words.{words}
use Rattle.plan.specs.Input.{problem_of}
use Rattle.timing.proofs.TimedLaws.{Setting}
use Rattle.timing.proofs.placing.fill_setups.Given as goal

abbrev pub invariant-loop-a : goal.invariant-loop-a
invariant-loop-a l = Setting (problem_of (words l.s) l.z) l.before l.machines l.setups l.a
