use mathlib.Core.Path.{sym, ap, ◌∙◌, subst}
use native.Mathlib.Omega.{arith}
use Rattle.words.specs.Words.{words}
use Rattle.words.proofs.WordLaws.{below_all}
use Rattle.graph.proofs.CountingLaws.{below_more}
use Rattle.plan.specs.Input.{problem_of, genes_of}
use Rattle.lines.specs.Lines.{lines_in}
use Rattle.trial.proofs.TimeLaws.{fit_of, holds_of}
use Rattle.moves.proofs.PairLaws.{reads}
use Rattle.search.specs.Search.{State}
use Rattle.steps.proofs.LoopLaws.{Number, line_number, first_ahead, all_made, stopped, allowed_back, well_back, pairs_made, number-made, moved_well, moved-timed, moved_sixteen, ahead_made, well_16, order_known}
use Rattle.steps.proofs.steps.search_lines.Goals as goal

pub loop-step-init : goal.loop-step-init
loop-step-init c = record { within = omega arith; few = c.requires.limit_bound.0; lined = c.requires.ready.1; timed = c.requires.ready.2; room = c.requires.kept.0; kept = c.requires.kept.1; tasked = c.requires.limit_bound.2; machined = c.requires.limit_bound.3; number = subst Number (sym c.requires.limit_bound.1) (line_number c.args.s.now c.args.z c.requires.ready.0.accepted (below_all 256 c.args.s.now (λ k l. omega (arith, c.shared_slice_known-1.given k))) c.requires.ready.0.weighed (lines_in c.args.cells.now c.args.lens) c.requires.ready.1.well c.requires.ready.2); ahead = first_ahead (problem_of (words c.args.s.now) c.args.z) c.args.limit (lines_in c.args.cells.now c.args.lens) c.fresh_taboo-pairs.ensures c.fresh_taboo-left.ensures c.requires.limit_bound.1 c.args.tasks.now c.args.machines.now }

pub try_step-tried-requires : goal.try_step-tried-requires
try_step-tried-requires c = record { ready = (c.requires.ready.0, c.loop-step.invariant.lined, c.loop-step.invariant.timed, c.requires.ready.3); kept = c.loop-step.invariant.kept }

pub pairs_after-paired-requires : goal.pairs_after-paired-requires
pairs_after-paired-requires c = (omega (arith, c.loop-step-test.true, c.loop-step.invariant.few), (c.try_step-tried.auto.cells ∙ c.loop-step.invariant.lined.roomy), reads (holds_of c.try_step-tried.new.cells c.loop-step.lengths (c.try_step-tried.auto.cells ∙ c.loop-step.invariant.lined.roomy) c.loop-step.invariant.lined.sixteen (well_back c.loop-step.invariant c.in-Found.is c.try_step-tried.new.cells c.try_step-tried.ensures.holding c.try_step-tried.ensures.lines)) c.in-Found.m (allowed_back c.loop-step.invariant c.in-Found.is c.try_step-tried.new.cells c.try_step-tried.ensures.holding c.try_step-tried.ensures.lines).fits)

pub make_move-moved-requires : goal.make_move-moved-requires
make_move-moved-requires c = record { cells_len = ((c.try_step-tried.auto.cells ∙ c.loop-step.invariant.lined.roomy), fit_of c.try_step-tried.new.cells c.loop-step.lengths (well_back c.loop-step.invariant c.in-Found.is c.try_step-tried.new.cells c.try_step-tried.ensures.holding c.try_step-tried.ensures.lines), (allowed_back c.loop-step.invariant c.in-Found.is c.try_step-tried.new.cells c.try_step-tried.ensures.holding c.try_step-tried.ensures.lines).fits); order_len = (c.loop-step.invariant.room.length_order ∙ sym (c.try_step-tried.auto.taken ∙ c.loop-step.invariant.kept.length_order), c.loop-step.invariant.room.length_starts ∙ sym (c.try_step-tried.auto.begun ∙ c.loop-step.invariant.kept.length_starts), c.loop-step.invariant.room.length-ends ∙ sym (c.try_step-tried.auto.done ∙ c.loop-step.invariant.kept.length-ends)) }

pub keep-sofar-requires : goal.keep-sofar-requires
keep-sofar-requires c = record { table_len = (c.requires.ready.0.tabled.sized, below_more c.args.z.activities 128 c.make_move-moved.new.order c.requires.ready.0.accepted.activities.1 (order_known (problem_of (words c.args.s.now) c.args.z) (genes_of (words c.args.s.now) c.args.z) c.requires.ready.0.accepted (lines_in c.make_move-moved.new.cells c.make_move-moved.result) (moved_well c.loop-step.invariant c.in-Found.is c.try_step-tried.new.cells c.try_step-tried.ensures.holding c.try_step-tried.ensures.lines c.make_move-moved.new.cells c.make_move-moved.result c.make_move-moved.ensures.lines.0) (moved-timed c.loop-step.invariant c.in-Found.is c.try_step-tried.new.cells c.try_step-tried.ensures.holding c.try_step-tried.ensures.lines c.make_move-moved.new.cells c.make_move-moved.result c.make_move-moved.ensures.lines.0 c.make_move-moved.ensures.timing)), (c.make_move-moved.auto.cells ∙ (c.try_step-tried.auto.cells ∙ c.loop-step.invariant.lined.roomy)), well_16 c.requires.ready.0.accepted.machines.1 (moved_well c.loop-step.invariant c.in-Found.is c.try_step-tried.new.cells c.try_step-tried.ensures.holding c.try_step-tried.ensures.lines c.make_move-moved.new.cells c.make_move-moved.result c.make_move-moved.ensures.lines.0), c.requires.ready.0.accepted.activities.1); tasks_len = (c.loop-step.invariant.tasked ∙ sym (c.make_move-moved.auto.order ∙ c.loop-step.invariant.room.length_order), c.loop-step.invariant.machined) }

pub loop-step-preserved : goal.loop-step-preserved
loop-step-preserved c = record { within = omega (arith, c.loop-step-test.true); few = c.loop-step.invariant.few; lined = record { roomy = (c.make_move-moved.auto.cells ∙ (c.try_step-tried.auto.cells ∙ c.loop-step.invariant.lined.roomy)); sixteen = moved_sixteen c.loop-step.invariant c.in-Found.is c.try_step-tried.new.cells c.try_step-tried.ensures.holding c.try_step-tried.ensures.lines c.make_move-moved.new.cells c.make_move-moved.result c.make_move-moved.ensures.lines.0; well = moved_well c.loop-step.invariant c.in-Found.is c.try_step-tried.new.cells c.try_step-tried.ensures.holding c.try_step-tried.ensures.lines c.make_move-moved.new.cells c.make_move-moved.result c.make_move-moved.ensures.lines.0 }; timed = moved-timed c.loop-step.invariant c.in-Found.is c.try_step-tried.new.cells c.try_step-tried.ensures.holding c.try_step-tried.ensures.lines c.make_move-moved.new.cells c.make_move-moved.result c.make_move-moved.ensures.lines.0 c.make_move-moved.ensures.timing; room = record { length_order = (c.make_move-moved.auto.order ∙ c.loop-step.invariant.room.length_order); length_starts = c.make_move-moved.auto.starts ∙ c.loop-step.invariant.room.length_starts; length-ends = c.make_move-moved.auto.ends ∙ c.loop-step.invariant.room.length-ends }; kept = record { length_order = c.try_step-tried.auto.taken ∙ c.loop-step.invariant.kept.length_order; length_starts = c.try_step-tried.auto.begun ∙ c.loop-step.invariant.kept.length_starts; length-ends = c.try_step-tried.auto.done ∙ c.loop-step.invariant.kept.length-ends }; tasked = c.keep-sofar.auto.tasks ∙ c.loop-step.invariant.tasked; machined = c.keep-sofar.auto.machines ∙ c.loop-step.invariant.machined; number = number-made c.loop-step.invariant c.in-Found.is c.try_step-tried.new.cells c.try_step-tried.ensures.holding c.try_step-tried.ensures.lines (λ lines w o s e t. line_number c.args.s.now c.args.z c.requires.ready.0.accepted (below_all 256 c.args.s.now (λ k l. omega (arith, c.shared_slice_known-1.given k))) c.requires.ready.0.weighed lines w t) c.keep-sofar.result.best c.keep-sofar.ensures.best; ahead = ahead_made c.loop-step.invariant c.in-Found.is c.try_step-tried.new.cells c.try_step-tried.ensures.holding c.try_step-tried.ensures.lines c.make_move-moved.new.cells c.make_move-moved.result c.make_move-moved.ensures.lines.0 c.loop-step-test.true c.try_step-tried.ensures.answer c.keep-sofar.result.found c.keep-sofar.new.tasks c.keep-sofar.new.machines (pairs_made c.loop-step.invariant c.in-Found.is c.try_step-tried.new.cells c.try_step-tried.ensures.holding c.try_step-tried.ensures.lines (c.try_step-tried.auto.cells ∙ c.loop-step.invariant.lined.roomy) c.pairs_after-paired.ensures) c.left_after-quit.ensures c.make_move-moved.ensures.timing.0 c.keep-sofar.ensures.best (c.keep-sofar.ensures.saved (problem_of (words c.args.s.now) c.args.z) c.requires.ready.0.tabled (order_known (problem_of (words c.args.s.now) c.args.z) (genes_of (words c.args.s.now) c.args.z) c.requires.ready.0.accepted (lines_in c.make_move-moved.new.cells c.make_move-moved.result) (moved_well c.loop-step.invariant c.in-Found.is c.try_step-tried.new.cells c.try_step-tried.ensures.holding c.try_step-tried.ensures.lines c.make_move-moved.new.cells c.make_move-moved.result c.make_move-moved.ensures.lines.0) (moved-timed c.loop-step.invariant c.in-Found.is c.try_step-tried.new.cells c.try_step-tried.ensures.holding c.try_step-tried.ensures.lines c.make_move-moved.new.cells c.make_move-moved.result c.make_move-moved.ensures.lines.0 c.make_move-moved.ensures.timing))) }

pub returns-after-loop-step : goal.returns-after-loop-step
returns-after-loop-step c = let last = all_made c.loop-step.invariant (omega (arith, c.loop-step-test.false)) in
    record { best = sym (ap (λ (x : State). x.best) last); found = sym (ap (λ (x : State). x.found) last); number = c.loop-step.invariant.number }

pub returns-in_default : goal.returns-in_default
returns-in_default c = let last = stopped c.loop-step.invariant c.try_step-tried.ensures.answer c.in_default.is in
    record { best = sym (ap (λ (x : State). x.best) last); found = sym (ap (λ (x : State). x.found) last); number = c.loop-step.invariant.number }
