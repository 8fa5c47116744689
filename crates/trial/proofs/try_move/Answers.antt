-- `trial::try_move` meets its contract: lines that contradict change nothing held, others are weighed. Assumes nothing.
use mathlib.Core.Path.{◌≡◌, ◌∙◌}
use lib.ListN.{length}
use Rattle.words.specs.Words.{words}
use Rattle.plan.specs.Input.{problem_of, genes_of}
use Rattle.lines.specs.Lines.{lines_in}
use Rattle.moves.specs.Moves.{applied}
use Rattle.timing.specs.Timing.{contradicts}
use Rattle.trial.proofs.TimeLaws.{allowed_well_formed, ended, rising}
use Rattle.trial.proofs.WeighLaws.{tried_not, tried_is, weighing, weighed_held, not_not, not_false}
use Rattle.trial.proofs.try_move.Goals as goal

pub time_move-requires : goal.time_move-requires
time_move-requires c = record { ready = c.requires.ready; rooms = c.requires.rooms }

pub returns-then-not-time_move : goal.returns-then-not-time_move
returns-then-not-time_move c = let e = not_false (contradicts (problem_of (words c.args.s.now) c.args.z) (applied c.args.m (lines_in c.args.cells.now c.args.lens))) c.time_move.ensures.answer c.if-not-time_move.true in
    record { answer = tried_not (problem_of (words c.args.s.now) c.args.z) (lines_in c.args.cells.now c.args.lens) c.args.forbidden c.args.best c.args.m c.args.held e; holding = c.requires.kept.1; lines = c.time_move.ensures.lines; linked = c.time_move.ensures.linked }

pub weigh_move-requires : goal.weigh_move-requires
weigh_move-requires c = let sixteen : length c.args.lens ≡ 16 = c.well_formed.1.1.1.1.1.1.1.1.1.0.1.0.1 in
    let t = c.time_move.ensures.timed c.if-not-time_move.false in
    let well = allowed_well_formed c.args.cells.now c.args.lens c.args.m sixteen c.requires.ready.2 c.requires.ready.3 in
    let p = problem_of (words c.args.s.now) c.args.z in
    let g = genes_of (words c.args.s.now) c.args.z in
    let moved = applied c.args.m (lines_in c.args.cells.now c.args.lens) in
    record {
      placed = (c.requires.ready.0.placed, c.requires.ready.0.accepted, c.requires.ready.0.weighed);
      ended = (ended p g c.requires.ready.0.accepted moved well t, rising p g c.requires.ready.0.accepted moved well t);
      kept = (
        record {
          length_order = c.time_move.auto.order ∙ c.requires.rooms.0.length_order;
          length_starts = c.time_move.auto.starts ∙ c.requires.rooms.0.length_starts;
          length-ends = c.time_move.auto.ends ∙ c.requires.rooms.0.length-ends;
        },
        c.requires.kept.0,
      );
    }

pub returns : goal.returns
returns c = let t = c.time_move.ensures.timed c.if-not-time_move.false in
    let e = not_not (contradicts (problem_of (words c.args.s.now) c.args.z) (applied c.args.m (lines_in c.args.cells.now c.args.lens))) c.time_move.ensures.answer c.if-not-time_move.false in
    record { answer = c.weigh_move.ensures.answer ∙ tried_is (problem_of (words c.args.s.now) c.args.z) (lines_in c.args.cells.now c.args.lens) c.args.forbidden c.args.best c.args.m c.args.held e t; holding = weighed_held (problem_of (words c.args.s.now) c.args.z) (lines_in c.args.cells.now c.args.lens) c.args.forbidden c.args.best _ c.args.m c.args.held _ c.weigh_move.ensures.answer c.weigh_move.ensures.order c.weigh_move.ensures.starts c.weigh_move.ensures.ends (weighing (problem_of (words c.args.s.now) c.args.z) (lines_in c.args.cells.now c.args.lens) c.args.m e t c.requires.ready.3) c.requires.kept.1; lines = c.time_move.ensures.lines; linked = c.time_move.ensures.linked }
