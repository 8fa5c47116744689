-- `reassign::reassignments` meets its contract. Without a choice there is none.
use mathlib.Core.Path.{◌∙◌}
use Rattle.words.specs.Words.{words}
use Rattle.plan.specs.Input.{problem_of}
use Rattle.lines.specs.Lines.{lines_in}
use Rattle.path.specs.Placing.{placed}
use Rattle.ranking.specs.Ranking.{best_three}
use Rattle.reassign.specs.Reassignments.{reassignments}
use Rattle.reassign.proofs.OfferLaws.{by_choice, no_choice}
use Rattle.reassign.proofs.reassignments.Goals as goal

pub best_on_path-requires : goal.best_on_path-requires
best_on_path-requires c = (c.requires.choices_value.2, record { problem = (problem_of (words c.args.s.now) c.args.z); movable = record { seen = c.requires.seen; opened = c.requires.choices_value.3; known = c.requires.choices_value.4 } })

pub returns-then-choices : goal.returns-then-choices
returns-then-choices c = λ order. c.best_on_path.ensures (problem_of (words c.args.s.now) c.args.z) (record { seen = c.requires.seen; opened = c.requires.choices_value.3; known = c.requires.choices_value.4 }) ∙ by_choice (best_three (reassignments (problem_of (words c.args.s.now) c.args.z) (lines_in c.args.cells.now c.args.lens.now) (placed order c.args.starts.now c.args.ends.now) c.args.tail.now c.args.path.now)) c.requires.choices_value.0 c.if-choices.true

pub returns : goal.returns
returns c = λ order. no_choice (best_three (reassignments (problem_of (words c.args.s.now) c.args.z) (lines_in c.args.cells.now c.args.lens.now) (placed order c.args.starts.now c.args.ends.now) c.args.tail.now c.args.path.now)) c.requires.choices_value.0 c.if-choices.false c.none.ensures
