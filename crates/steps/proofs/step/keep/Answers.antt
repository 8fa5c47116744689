use lib.Ieee.{lt}
use Rattle.lines.specs.Lines.{lines_in}
use Rattle.search.specs.Search.{saved_of, genes_by}
use Rattle.search.proofs.StepsLaws.{better_best, better_saved, same_best, same_saved}
use Rattle.steps.proofs.step.keep.Goals as goal

pub returns-then-f-old : goal.returns-then-f-old
returns-then-f-old c = record { best = better_best (lt c.args.f c.args.sofar.best) c.if-f-old.true c.args.f c.args.sofar.best; saved = λ p t k. better_saved (lt c.args.f c.args.sofar.best) c.if-f-old.true p c.args.n c.args.order.now (lines_in c.args.cells.now c.args.lens) (c.save.ensures.tasks p t k) c.save.ensures.machines (saved_of c.args.sofar.found c.args.tasks.now c.args.machines.now) }

pub returns : goal.returns
returns c = record { best = same_best (lt c.args.f c.args.sofar.best) c.if-f-old.false c.args.f c.args.sofar.best; saved = λ p t k. same_saved (lt c.args.f c.args.sofar.best) c.if-f-old.false (genes_by p c.args.n c.args.order.now (lines_in c.args.cells.now c.args.lens)) (saved_of c.args.sofar.found c.args.tasks.now c.args.machines.now) }
