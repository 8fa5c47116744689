use mathlib.Core.Path.{sym, ap, ◌∙◌}
use Rattle.std.specs.Prelude.{Ok}
use Rattle.intake.specs.Intake.{problem_in, taken_in}
use Rattle.improving.specs.Improving.{Outcome, answer_of, tasks_left, machines_left, improved_plan}
use Rattle.terminal_text.proofs.ShownLaws.{fourteen_shown, plan-told, plan_in, short_as}
use Rattle.terminal_text.proofs.show_in.Goals as goal

pub returns-in-Ok-Better : goal.returns-in-Ok-Better
returns-in-Ok-Better c =
    let whole = plan_in c.args.s.now c.args.cells.now c.args.tasks.now c.args.machines.now c.requires.0 c.requires.1 c.requires.2 in
    let better = rw c.in-Ok-Better.is at c.in-Ok-Better.field-0-is in
    let told = ap Ok (sym better) ∙ sym c.in-Ok-Better.is ∙ c.improve-answer.ensures.answer ∙ ap answer_of (sym whole) in
    let tasks = c.improve-answer.ensures.tasks ∙ ap (λ (o : Outcome). tasks_left o c.args.tasks.now) (sym whole) in
    let machines = c.improve-answer.ensures.machines ∙ ap (λ (o : Outcome). machines_left o c.args.machines.now) (sym whole) in
    short_as (fourteen_shown c.args.s.now (improved_plan c.args.s.now) (problem_in c.args.s.now (taken_in c.args.s.now)) (plan-told c.args.s.now) told c.args.tasks.now c.args.machines.now tasks machines) c.show_renewed.ensures
