-- `graph::release` meets its contract: those on the line, in the task and naming are freed one after the other. Assumes nothing.
use lib.ListN.{length}
use mathlib.Core.Path.{◌∙◌}
use native.Mathlib.Omega.{arith}
use Rattle.graph.proofs.FreeingLaws.{line_safe, task_safe, naming_safe, all_freed}
use Rattle.graph.proofs.LinkedLaws.{part_within}
use Rattle.graph.specs.Run.{state_of}
use Rattle.graph.proofs.release.Goals as goal

pub meet-after_line-requires : goal.meet-after_line-requires
meet-after_line-requires c = (c.requires.a_in_bounds.0, line_safe c.args.line.now c.args.task.now c.args.at.now c.args.waiting.now c.args.a _ _ c.requires.safe)

pub meet-after_task-requires : goal.meet-after_task-requires
meet-after_task-requires c = let before = state_of c.args.counts.now c.args.stack.now c.args.top in
    (omega (arith, c.requires.a_in_bounds.0, c.requires.a_in_bounds.1.tasked), task_safe c.args.line.now c.args.task.now c.args.at.now c.args.waiting.now c.args.a before (length c.args.stack.now) c.requires.safe c.meet-after_line.ensures _ c.meet-after_line.auto.stack)

pub release_naming-requires : goal.release_naming-requires
release_naming-requires c = let before = state_of c.args.counts.now c.args.stack.now c.args.top in
    record { a_in_bounds = (omega (arith, c.requires.a_in_bounds.1.bounded, c.requires.a_in_bounds.0), c.requires.a_in_bounds.1.rising c.args.a c.requires.a_in_bounds.0, part_within c.requires.a_in_bounds.1 c.args.a c.requires.a_in_bounds.0); safe = naming_safe c.args.line.now c.args.task.now c.args.at.now c.args.waiting.now c.args.a before (length c.args.stack.now) c.requires.safe c.meet-after_line.ensures c.meet-after_task.ensures _ (c.meet-after_task.auto.stack ∙ c.meet-after_line.auto.stack) }

pub returns : goal.returns
returns c = let before = state_of c.args.counts.now c.args.stack.now c.args.top in (
  all_freed c.args.line.now c.args.task.now c.args.at.now c.args.waiting.now c.args.a before (length c.args.stack.now) c.requires.safe c.meet-after_line.ensures c.meet-after_task.ensures c.release_naming.ensures.0,
  omega (arith, c.release_naming.ensures.1, c.meet-after_task.auto.stack, c.meet-after_line.auto.stack),
)
