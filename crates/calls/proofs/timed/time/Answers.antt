use mathlib.Core.Path.{refl, sym, ap, ◌∙◌}
use mathlib.Core.Bool.{◌&&◌}
use lib.Dec.{leb}
use lib.ListN.{length, take}
use lib.Seq.{length-take-le}
use Rattle.lines.specs.Lines.{lines_in}
use Rattle.calls.specs.Outcome.{answer_of}
use Rattle.calls.specs.Timing.{timed_plan, roomy}
use Rattle.calls.proofs.SheetLaws.{roomy_on, roomy_means, laid_asks, laid_timed, refused_timed, leaves_as}
use Rattle.calls.proofs.timed.time.Goals as goal

pub returns-in_err-z-clause-rows : goal.returns-in_err-z-clause-rows
returns-in_err-z-clause-rows c = let e = refused_timed c.args.s.now c.in_err-z.ensures.answer (lines_in (take 2048 c.args.cells.now) c.args.lens) ∙ roomy_on (timed_plan c.args.s.now (lines_in (take 2048 c.args.cells.now) c.args.lens)) (leb 2048 (length c.args.cells.now) && roomy c.args.activities.now c.args.machines.now c.args.starts.now c.args.ends.now c.args.setups.now) (sym c.is_roomy.ensures ∙ c.if-not-is_roomy.false) in
    leaves_as e (record { activities = refl; machines = refl; starts = refl; ends = refl; setups = refl })

pub slice_bounds-time_known-end-2 : goal.slice_bounds-time_known-end-2
slice_bounds-time_known-end-2 c = sym (length-take-le 2048 c.args.cells.now (roomy_means c.args.cells.now c.args.activities.now c.args.machines.now c.args.starts.now c.args.ends.now c.args.setups.now (sym c.is_roomy.ensures ∙ c.if-not-is_roomy.false)).0)

pub time_known-requires : goal.time_known-requires
time_known-requires c = record { taken = (laid_asks c.args.s.now c.in_ok-z.ensures.answer c.in_ok-z.ensures.tabled, length-take-le 2048 c.args.cells.now (roomy_means c.args.cells.now c.args.activities.now c.args.machines.now c.args.starts.now c.args.ends.now c.args.setups.now (sym c.is_roomy.ensures ∙ c.if-not-is_roomy.false)).0); roomy = (roomy_means c.args.cells.now c.args.activities.now c.args.machines.now c.args.starts.now c.args.ends.now c.args.setups.now (sym c.is_roomy.ensures ∙ c.if-not-is_roomy.false)).1 }

pub returns : goal.returns
returns c = let e = laid_timed c.args.s.now c.in_ok-z.ensures.answer (lines_in (take 2048 c.args.cells.now) c.args.lens) ∙ roomy_on (timed_plan c.args.s.now (lines_in (take 2048 c.args.cells.now) c.args.lens)) (leb 2048 (length c.args.cells.now) && roomy c.args.activities.now c.args.machines.now c.args.starts.now c.args.ends.now c.args.setups.now) (sym c.is_roomy.ensures ∙ c.if-not-is_roomy.false) in
    record { answer = c.time_known.ensures.answer ∙ ap answer_of e; rows = leaves_as e c.time_known.ensures.rows }
