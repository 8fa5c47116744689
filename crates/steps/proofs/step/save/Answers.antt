use mathlib.Core.Path.{sym}
use Rattle.calls.proofs.PrefixLaws.{lent}
use Rattle.steps.proofs.step.save.Goals as goal

pub slice_bounds-save-end : goal.slice_bounds-save-end
slice_bounds-save-end c = sym (lent c.args.n c.requires.table_len.4)

pub slice_bounds-save-end-2 : goal.slice_bounds-save-end-2
slice_bounds-save-end-2 c = sym (lent c.args.n c.requires.table_len.4)

pub slice_bounds-save-end-3 : goal.slice_bounds-save-end-3
slice_bounds-save-end-3 c = sym (lent c.args.n c.requires.table_len.4)

pub save-requires : goal.save-requires
save-requires c = record { table_len = (c.requires.table_len.0, c.requires.table_len.1, c.requires.table_len.2, c.requires.table_len.3); before_len = (lent c.args.n c.requires.table_len.4, lent c.args.n c.requires.table_len.4, lent c.args.n c.requires.table_len.4, c.requires.tasks_len.0, c.requires.tasks_len.1) }
