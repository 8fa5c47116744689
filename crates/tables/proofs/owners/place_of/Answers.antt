-- `tables::owners::place_of` meets its contract: the task that has begun, or the next.
use native.Mathlib.Omega.{arith}
use Rattle.words.specs.Words.{words}
use Rattle.tables.proofs.TaskLaws.{is_task, next_place}
use Rattle.tables.proofs.owners.place_of.Goals as goal

pub overflow_add-task : goal.overflow_add-task
overflow_add-task c = let h = is_task (words c.args.s.now) c.args.z c.requires.1 c.args.p.task c.args.a c.requires.3.first c.requires.2 in omega (arith, c.requires.0.tasks)

pub steps-count-requires : goal.steps-count-requires
steps-count-requires c = let h = is_task (words c.args.s.now) c.args.z c.requires.1 c.args.p.task c.args.a c.requires.3.first c.requires.2 in (c.requires.0, omega (arith, c.requires.0.tasks))

pub returns : goal.returns
returns c = next_place _ _ c.requires.1 _ _ c.requires.2 c.requires.3 c.if-a-p.false c.steps-count.ensures
