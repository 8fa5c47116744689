-- `timing::time_linked` meets its contract: an order that leaves one out is that of lines that contradict. Assumes nothing.
use mathlib.Core.Path.{◌∙◌}
use Rattle.words.specs.Words.{words}
use Rattle.plan.specs.Input.{problem_of}
use Rattle.lines.specs.Lines.{lines_in}
use Rattle.timing.proofs.TimedLaws.{agrees_when, timed_when}
use Rattle.timing.proofs.time_linked.Goals as goal

pub order_and_place-taken-requires : goal.order_and_place-taken-requires
order_and_place-taken-requires c = c.requires

pub returns : goal.returns
returns c = let p = problem_of (words c.args.s.now) c.args.z in
    let lines = lines_in c.args.cells.now c.args.lens.now in
    let sized = c.order_and_place-taken.auto.order ∙ c.requires.space.0.ordered in
    record { answer = agrees_when p lines _ c.order_and_place-taken.ensures.order_after.0 sized c.order_and_place-taken.ensures.order_after.1; timed = λ e. timed_when p lines _ c.order_and_place-taken.ensures.order_after.0 sized c.order_and_place-taken.ensures.placement e }
