use mathlib.Core.Path.{sym}
use Rattle.calls.proofs.PrefixLaws.{lent}
use borrow.Author.Rules.{rules}
use Rattle.steps.proofs.step.try_step.Goals as goal

pub slice_bounds-best_move-end : goal.slice_bounds-best_move-end
slice_bounds-best_move-end c = sym (lent c.args.z.activities c.requires.ready.0.accepted.activities.1)

pub slice_bounds-best_move-end-2 : goal.slice_bounds-best_move-end-2
slice_bounds-best_move-end-2 c = sym (lent c.args.z.activities c.requires.ready.0.accepted.activities.1)

pub slice_bounds-best_move-end-3 : goal.slice_bounds-best_move-end-3
slice_bounds-best_move-end-3 c = sym (lent c.args.z.activities c.requires.ready.0.accepted.activities.1)

pub slice_bounds-best_move-end-4 : goal.slice_bounds-best_move-end-4
slice_bounds-best_move-end-4 c = sym (lent c.args.z.activities c.requires.ready.0.accepted.activities.1)

pub slice_bounds-best_move-end-5 : goal.slice_bounds-best_move-end-5
slice_bounds-best_move-end-5 c = sym (lent c.args.z.activities c.requires.ready.0.accepted.activities.1)

pub slice_bounds-best_move-end-6 : goal.slice_bounds-best_move-end-6
slice_bounds-best_move-end-6 c = sym (lent c.args.z.activities c.requires.ready.0.accepted.activities.1)

pub slice_bounds-best_move-end-7 : goal.slice_bounds-best_move-end-7
slice_bounds-best_move-end-7 c = sym (lent c.args.z.activities c.requires.ready.0.accepted.activities.1)

pub slice_bounds-best_move-end-9 : goal.slice_bounds-best_move-end-9
slice_bounds-best_move-end-9 c = sym (lent c.args.z.activities c.requires.ready.0.accepted.activities.1)

pub slice_bounds-best_move-end-10 : goal.slice_bounds-best_move-end-10
slice_bounds-best_move-end-10 c = sym (lent c.args.z.activities c.requires.ready.0.accepted.activities.1)

pub slice_bounds-best_move-end-11 : goal.slice_bounds-best_move-end-11
slice_bounds-best_move-end-11 c = sym (lent c.args.z.activities c.requires.ready.0.accepted.activities.1)

pub best_move-requires : goal.best_move-requires
best_move-requires c = record { ready = c.requires.ready; space = (record { length_before = lent c.args.z.activities c.requires.ready.0.accepted.activities.1; length-after = lent c.args.z.activities c.requires.ready.0.accepted.activities.1; length-machines = lent c.args.z.activities c.requires.ready.0.accepted.activities.1; length-places = lent c.args.z.activities c.requires.ready.0.accepted.activities.1; length_path = lent c.args.z.activities c.requires.ready.0.accepted.activities.1; length_tail = lent c.args.z.activities c.requires.ready.0.accepted.activities.1; length_heads = search rules }, lent c.args.z.activities c.requires.ready.0.accepted.activities.1); kept = (record { length_order = lent c.args.z.activities c.requires.ready.0.accepted.activities.1; length_starts = lent c.args.z.activities c.requires.ready.0.accepted.activities.1; length-ends = lent c.args.z.activities c.requires.ready.0.accepted.activities.1 }, c.requires.kept) }

pub shape_of-cells : goal.shape_of-cells
shape_of-cells c = c.best_move.auto.cells

pub shape_of-taken : goal.shape_of-taken
shape_of-taken c = c.best_move.auto.taken

pub shape_of-begun : goal.shape_of-begun
shape_of-begun c = c.best_move.auto.begun

pub shape_of-done : goal.shape_of-done
shape_of-done c = c.best_move.auto.done
