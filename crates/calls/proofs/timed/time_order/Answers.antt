use mathlib.Core.Path.{sym, ap, ◌∙◌}
use Rattle.calls.specs.Outcome.{answer_of}
use Rattle.calls.specs.Timing.{ordered_plan, roomy}
use Rattle.calls.proofs.SheetLaws.{roomy_on, rows_room, laid_asks, laid_ordered, leaves_as}
use Rattle.calls.proofs.timed.time_order.Goals as goal

pub time_genes-requires : goal.time_genes-requires
time_genes-requires c = (laid_asks c.args.s.now c.in_ok-z.ensures.answer c.in_ok-z.ensures.tabled, rows_room c.args.activities.now c.args.machines.now c.args.starts.now c.args.ends.now c.args.setups.now (sym c.rows_fit.ensures ∙ c.if-not-rows_fit.false))

pub returns : goal.returns
returns c = let e = laid_ordered c.args.s.now c.in_ok-z.ensures.answer ∙ roomy_on (ordered_plan c.args.s.now) (roomy c.args.activities.now c.args.machines.now c.args.starts.now c.args.ends.now c.args.setups.now) (sym c.rows_fit.ensures ∙ c.if-not-rows_fit.false) in
    record { answer = c.time_genes.ensures.answer ∙ ap answer_of e; rows = leaves_as e c.time_genes.ensures.rows }
