use mathlib.Core.Path.{sym, ap, ◌∙◌}
use lib.Seq.{length-take-le}
use Rattle.std.specs.Prelude.{Ok}
use Rattle.std.proofs.lemmas.Result.{err_from_is_err_and}
use Rattle.calls.proofs.SheetLaws.{laid_asks}
use Rattle.improving.specs.Improving.{Outcome, answer_of, tasks_left, machines_left, roomy, improved_plan}
use Rattle.improving.proofs.CallLaws.{six, roomy_on, roomy_means, laid_improved, refused_improved}
use Rattle.improving.proofs.call.improve.Goals as goal

pub returns-then-not-is_roomy : goal.returns-then-not-is_roomy
returns-then-not-is_roomy c = let e = six (improved_plan c.args.s.now) (roomy c.args.cells.now c.args.tasks.now c.args.machines.now) (sym c.is_roomy.ensures ∙ c.if-not-is_roomy.true) in
    record { answer = ap answer_of e; tasks = ap (λ (o : Outcome). tasks_left o c.args.tasks.now) e; machines = ap (λ (o : Outcome). machines_left o c.args.machines.now) e }

pub returns-in_err-z : goal.returns-in_err-z
returns-in_err-z c = let p = err_from_is_err_and c.from_residual.result c.from_residual.ensures.1 in
    let e = refused_improved c.args.s.now c.in_err-z.ensures.answer ∙ roomy_on (improved_plan c.args.s.now) (roomy c.args.cells.now c.args.tasks.now c.args.machines.now) (sym c.is_roomy.ensures ∙ c.if-not-is_roomy.false) in
    record { answer = rw (p.1, p.2) (ap answer_of e); tasks = ap (λ (o : Outcome). tasks_left o c.args.tasks.now) e; machines = ap (λ (o : Outcome). machines_left o c.args.machines.now) e }

pub slice_bounds-improve_genes-end-2 : goal.slice_bounds-improve_genes-end-2
slice_bounds-improve_genes-end-2 c = (roomy_means c.args.cells.now c.args.tasks.now c.args.machines.now (sym c.is_roomy.ensures ∙ c.if-not-is_roomy.false)).0

pub slice_bounds-improve_genes-end-3 : goal.slice_bounds-improve_genes-end-3
slice_bounds-improve_genes-end-3 c = sym (length-take-le 2048 c.args.cells.now (roomy_means c.args.cells.now c.args.tasks.now c.args.machines.now (sym c.is_roomy.ensures ∙ c.if-not-is_roomy.false)).0)

pub improve_genes-requires : goal.improve_genes-requires
improve_genes-requires c = (laid_asks c.args.s.now c.in_ok-z.ensures.answer c.in_ok-z.ensures.tabled, length-take-le 2048 c.args.cells.now (roomy_means c.args.cells.now c.args.tasks.now c.args.machines.now (sym c.is_roomy.ensures ∙ c.if-not-is_roomy.false)).0, (roomy_means c.args.cells.now c.args.tasks.now c.args.machines.now (sym c.is_roomy.ensures ∙ c.if-not-is_roomy.false)).1, (roomy_means c.args.cells.now c.args.tasks.now c.args.machines.now (sym c.is_roomy.ensures ∙ c.if-not-is_roomy.false)).2)

pub returns : goal.returns
returns c = let e = laid_improved c.args.s.now c.in_ok-z.ensures.answer ∙ roomy_on (improved_plan c.args.s.now) (roomy c.args.cells.now c.args.tasks.now c.args.machines.now) (sym c.is_roomy.ensures ∙ c.if-not-is_roomy.false) in
    record { answer = ap Ok c.improve_genes.ensures.answer ∙ ap answer_of e; tasks = c.improve_genes.ensures.tasks ∙ ap (λ (o : Outcome). tasks_left o c.args.tasks.now) e; machines = c.improve_genes.ensures.machines ∙ ap (λ (o : Outcome). machines_left o c.args.machines.now) e }
