use Rattle.std.specs.Prelude.{is_some}
use Prim.Native.Nat.{ℕ}
use mathlib.Core.Path.{sym, ap, ◌∙◌}
use lib.Dec.{eqb}
use Rattle.words.specs.Words.{words}
use Rattle.plan.specs.Input.{problem_of, genes_of}
use Rattle.search.specs.Search.{Improved}
use Rattle.improving.specs.Improving.{told, tasks_over, machines_over}
use Rattle.improving.proofs.CallLaws.{eleven, not_eleven, ten, not_ten}
use Rattle.calls.proofs.SheetLaws.{not_not, not_false}
use borrow.Author.Tests.{eq-eqb, ne_eqb}
use Rattle.genes.specs.Indexed as Indexed
use Rattle.genes.proofs.LinesLaws.{genes-well_formed}
use Rattle.improving.proofs.call.improve_genes.Goals as goal

pub returns-then-limit-eq0 : goal.returns-then-limit-eq0
returns-then-limit-eq0 c = let e = ten (problem_of (words c.args.s.now) c.args.z) (genes_of (words c.args.s.now) c.args.z) (eqb (problem_of (words c.args.s.now) c.args.z).limit 0) (ap (λ (k : ℕ). eqb k 0) (sym c.limit.ensures) ∙ eq-eqb c.limit.result 0 c.if-limit-eq0.true) in
    record { answer = ap told e; tasks = ap (λ (i : Improved). tasks_over i c.args.tasks.now) e; machines = ap (λ (i : Improved). machines_over i c.args.machines.now) e }

pub returns-in_default : goal.returns-in_default
returns-in_default c = let e = eleven (problem_of (words c.args.s.now) c.args.z) (genes_of (words c.args.s.now) c.args.z) (Indexed.misses (problem_of (words c.args.s.now) c.args.z) (genes_of (words c.args.s.now) c.args.z)) (not_false (Indexed.misses (problem_of (words c.args.s.now) c.args.z) (genes_of (words c.args.s.now) c.args.z)) c.deal_lines.ensures.whole (ap is_some c.in_default.is)) ∙ not_ten (problem_of (words c.args.s.now) c.args.z) (genes_of (words c.args.s.now) c.args.z) (eqb (problem_of (words c.args.s.now) c.args.z).limit 0) (ap (λ (k : ℕ). eqb k 0) (sym c.limit.ensures) ∙ ne_eqb c.limit.result 0 c.if-limit-eq0.false) in
    record { answer = ap told e; tasks = ap (λ (i : Improved). tasks_over i c.args.tasks.now) e; machines = ap (λ (i : Improved). machines_over i c.args.machines.now) e }

pub improve_lines-requires : goal.improve_lines-requires
improve_lines-requires c = record { taken = (c.requires.0, c.deal_lines.auto.cells ∙ c.requires.1, rw (c.deal_lines.ensures.held _ c.in-Some.is) (genes-well_formed c.requires.0.accepted (not_not (Indexed.misses (problem_of (words c.args.s.now) c.args.z) (genes_of (words c.args.s.now) c.args.z)) c.deal_lines.ensures.whole (ap is_some c.in-Some.is)))); in_bounds = (c.requires.2, c.requires.3) }

pub returns : goal.returns
returns c = let e = not_eleven (problem_of (words c.args.s.now) c.args.z) (genes_of (words c.args.s.now) c.args.z) (Indexed.misses (problem_of (words c.args.s.now) c.args.z) (genes_of (words c.args.s.now) c.args.z)) (not_not (Indexed.misses (problem_of (words c.args.s.now) c.args.z) (genes_of (words c.args.s.now) c.args.z)) c.deal_lines.ensures.whole (ap is_some c.in-Some.is)) (c.deal_lines.ensures.held _ c.in-Some.is) ∙ not_ten (problem_of (words c.args.s.now) c.args.z) (genes_of (words c.args.s.now) c.args.z) (eqb (problem_of (words c.args.s.now) c.args.z).limit 0) (ap (λ (k : ℕ). eqb k 0) (sym c.limit.ensures) ∙ ne_eqb c.limit.result 0 c.if-limit-eq0.false) in
    record { answer = c.improve_lines.ensures.answer ∙ ap told e; tasks = c.improve_lines.ensures.tasks ∙ ap (λ (i : Improved). tasks_over i c.args.tasks.now) e; machines = c.improve_lines.ensures.machines ∙ ap (λ (i : Improved). machines_over i c.args.machines.now) e }
