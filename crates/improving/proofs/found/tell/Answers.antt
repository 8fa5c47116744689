use mathlib.Core.Path.{ap, ◌∙◌}
use Rattle.graph.proofs.BoolLaws.{denied, granted}
use Rattle.search.specs.Search.{Improved}
use Rattle.improving.specs.Improving.{told, tasks_over, machines_over}
use Rattle.improving.proofs.CallLaws.{not_found, found_so}
use Rattle.improving.proofs.found.tell.Goals as goal

pub returns-then-not-f : goal.returns-then-not-f
returns-then-not-f c = let e = not_found c.args.f.found (denied _ c.if-not-f.true) c.args.found.now c.args.on.now c.args.f.best in
    record { answer = ap told e; tasks = ap (λ (i : Improved). tasks_over i c.args.tasks.now) e; machines = ap (λ (i : Improved). machines_over i c.args.machines.now) e }

pub returns : goal.returns
returns c = let e = found_so c.args.f.found (granted _ c.if-not-f.false) c.args.found.now c.args.on.now c.args.f.best in
    record { answer = ap told e; tasks = c.copy_over.ensures ∙ ap (λ (i : Improved). tasks_over i c.args.tasks.now) e; machines = c.copy_over-2.ensures ∙ ap (λ (i : Improved). machines_over i c.args.machines.now) e }
