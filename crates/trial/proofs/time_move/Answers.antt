-- `trial::time_move` meets its contract: the move fits and leaves lines that can be timed, and its reverse restores them and their links. Assumes
-- nothing.
use mathlib.Core.Bool.{not}
use mathlib.Core.Path.{◌≡◌, sym, ap, ◌∙◌, subst}
use native.Mathlib.Omega.{arith}
use lib.ListN.{length}
use Rattle.words.specs.Words.{words}
use Rattle.plan.specs.Input.{problem_of}
use Rattle.lines.specs.Lines.{Lines, lines_in, WellFormed}
use Rattle.lines.proofs.LinkingLoops.{more_machines}
use Rattle.moves.proofs.RelinkLaws.{known_fits}
use Rattle.timing.specs.Timing.{contradicts}
use Rattle.timing.proofs.TimedLaws.{neighbours, seated}
use Rattle.trial.proofs.TimeLaws.{fit_of, moved-well_formed, back_fits, back-applied, back_again, timed_on, held_on}
use Rattle.trial.proofs.time_move.Goals as goal

pub apply-moved-requires : goal.apply-moved-requires
apply-moved-requires c = (c.requires.ready.1, fit_of c.args.cells.now c.args.lens c.requires.ready.2, c.requires.ready.3.fits)

pub relink-requires : goal.relink-requires
relink-requires c = let sixteen : length c.args.lens ≡ 16 = c.well_formed.1.1.1.1.1.1.0.1.0.1 in
    (c.apply-moved.auto.cells ∙ c.requires.ready.1, more_machines 16 c.requires.ready.0.accepted.machines.1 (moved-well_formed c.args.cells.now c.args.lens c.apply-moved.new.cells c.apply-moved.result c.args.m sixteen c.requires.ready.2 c.requires.ready.3 c.apply-moved.ensures.result_after), c.requires.rooms.0.length_before, c.requires.rooms.0.length-after, c.requires.rooms.0.length-machines, c.requires.rooms.0.length-places, known_fits c.args.m _ c.requires.ready.3.fits)

pub time_linked-possible-requires : goal.time_linked-possible-requires
time_linked-possible-requires c = let sixteen : length c.args.lens ≡ 16 = c.well_formed.1.1.1.1.1.1.0.1.0.1 in
    let held = c.relink.ensures (lines_in c.args.cells.now c.args.lens) (more_machines 16 c.requires.ready.0.accepted.machines.1 c.requires.ready.2) c.requires.ready.3.fits c.apply-moved.ensures.result_after c.requires.rooms.1 in
    record { placed = (c.requires.ready.0.placed, c.requires.ready.0.accepted, c.requires.ready.0.tabled, c.requires.ready.0.transports); well_formed = (moved-well_formed c.args.cells.now c.args.lens c.apply-moved.new.cells c.apply-moved.result c.args.m sixteen c.requires.ready.2 c.requires.ready.3 c.apply-moved.ensures.result_after, neighbours held (c.relink.auto.before ∙ c.requires.rooms.0.length_before) (c.relink.auto.after ∙ c.requires.rooms.0.length-after), seated held (c.relink.auto.before ∙ c.requires.rooms.0.length_before) (c.relink.auto.machines ∙ c.requires.rooms.0.length-machines)); space = (record { counted = c.requires.rooms.2; roomy = omega (arith, c.requires.rooms.3); narrow = omega (arith, c.requires.rooms.3, c.requires.ready.0.accepted.activities.1); ordered = c.requires.rooms.0.length_order }, c.requires.rooms.0.length_starts, c.requires.rooms.0.length-ends) }

pub apply-requires : goal.apply-requires
apply-requires c = let sixteen : length c.args.lens ≡ 16 = c.well_formed.1.1.1.1.1.1.0.1.0.1 in
    (c.apply-moved.auto.cells ∙ c.requires.ready.1, c.apply-moved.ensures.fit, back_fits c.args.cells.now c.args.lens c.apply-moved.new.cells c.apply-moved.result c.args.m c.reverse-back.result sixteen c.requires.ready.3.fits c.apply-moved.ensures.result_after c.reverse-back.ensures (fit_of c.args.cells.now c.args.lens c.requires.ready.2))

pub relink-requires-2 : goal.relink-requires-2
relink-requires-2 c = let sixteen : length c.args.lens ≡ 16 = c.well_formed.1.1.1.1.1.1.0.1.0.1 in
    let same = back_again c.args.cells.now c.args.lens c.apply-moved.new.cells c.apply-moved.result c.args.m c.reverse-back.result sixteen c.requires.ready.3.fits c.apply-moved.ensures.result_after c.reverse-back.ensures c.apply.new.cells c.apply.result c.apply.ensures.result_after in (
      c.apply.auto.cells ∙ c.apply-moved.auto.cells ∙ c.requires.ready.1,
      subst (λ (l : Lines). WellFormed c.args.z.activities 16 l) (sym same) (more_machines 16 c.requires.ready.0.accepted.machines.1 c.requires.ready.2),
      (c.relink.auto.before ∙ c.requires.rooms.0.length_before),
      (c.relink.auto.after ∙ c.requires.rooms.0.length-after),
      (c.relink.auto.machines ∙ c.requires.rooms.0.length-machines),
      (c.relink.auto.places ∙ c.requires.rooms.0.length-places),
      known_fits c.reverse-back.result _ (back_fits c.args.cells.now c.args.lens c.apply-moved.new.cells c.apply-moved.result c.args.m c.reverse-back.result sixteen c.requires.ready.3.fits c.apply-moved.ensures.result_after c.reverse-back.ensures (fit_of c.args.cells.now c.args.lens c.requires.ready.2)),
    )

pub shape_of-cells : goal.shape_of-cells
shape_of-cells c = c.apply.auto.cells ∙ c.apply-moved.auto.cells

pub shape_of-before : goal.shape_of-before
shape_of-before c = c.relink-2.auto.before ∙ c.relink.auto.before

pub shape_of-after : goal.shape_of-after
shape_of-after c = c.relink-2.auto.after ∙ c.relink.auto.after

pub shape_of-machines : goal.shape_of-machines
shape_of-machines c = c.relink-2.auto.machines ∙ c.relink.auto.machines

pub shape_of-places : goal.shape_of-places
shape_of-places c = c.relink-2.auto.places ∙ c.relink.auto.places

pub shape_of-counts : goal.shape_of-counts
shape_of-counts c = c.time_linked-possible.auto.counts

pub shape_of-stack : goal.shape_of-stack
shape_of-stack c = c.time_linked-possible.auto.stack

pub shape_of-order : goal.shape_of-order
shape_of-order c = c.time_linked-possible.auto.order

pub shape_of-starts : goal.shape_of-starts
shape_of-starts c = c.time_linked-possible.auto.starts

pub shape_of-ends : goal.shape_of-ends
shape_of-ends c = c.time_linked-possible.auto.ends

pub returns : goal.returns
returns c = let sixteen : length c.args.lens ≡ 16 = c.well_formed.1.1.1.1.1.1.0.1.0.1 in
    let same = back_again c.args.cells.now c.args.lens c.apply-moved.new.cells c.apply-moved.result c.args.m c.reverse-back.result sixteen c.requires.ready.3.fits c.apply-moved.ensures.result_after c.reverse-back.ensures c.apply.new.cells c.apply.result c.apply.ensures.result_after in
    let held = c.relink-2.ensures (lines_in c.apply-moved.new.cells c.apply-moved.result) (more_machines 16 c.requires.ready.0.accepted.machines.1 (moved-well_formed c.args.cells.now c.args.lens c.apply-moved.new.cells c.apply-moved.result c.args.m sixteen c.requires.ready.2 c.requires.ready.3 c.apply-moved.ensures.result_after)) (back_fits c.args.cells.now c.args.lens c.apply-moved.new.cells c.apply-moved.result c.args.m c.reverse-back.result sixteen c.requires.ready.3.fits c.apply-moved.ensures.result_after c.reverse-back.ensures (fit_of c.args.cells.now c.args.lens c.requires.ready.2)) (back-applied c.args.cells.now c.args.lens c.apply-moved.new.cells c.apply-moved.result c.args.m c.reverse-back.result sixteen c.requires.ready.3.fits c.apply-moved.ensures.result_after c.reverse-back.ensures c.apply.new.cells c.apply.result c.apply.ensures.result_after) (c.relink.ensures (lines_in c.args.cells.now c.args.lens) (more_machines 16 c.requires.ready.0.accepted.machines.1 c.requires.ready.2) c.requires.ready.3.fits c.apply-moved.ensures.result_after c.requires.rooms.1) in
    record { answer = c.time_linked-possible.ensures.answer ∙ ap (λ (l : Lines). not (contradicts (problem_of (words c.args.s.now) c.args.z) l)) c.apply-moved.ensures.result_after; timed = (λ t. timed_on c.apply-moved.ensures.result_after (c.time_linked-possible.ensures.timed t)); lines = same; linked = held_on same held }
