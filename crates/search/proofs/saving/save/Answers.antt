use mathlib.Core.Path.{◌∙◌}
use Rattle.lines.specs.Lines.{lines_in, machine_of}
use Rattle.search.proofs.SavingLaws.{each_is}
use Rattle.search.proofs.saving.save.Goals as goal

pub returns : goal.returns
returns c = record { tasks = c.save_tasks.ensures; machines = each_is c.args.n (machine_of (lines_in c.args.cells.now c.args.lens)) c.link_lines.new.machines (c.link_lines.auto.machines ∙ c.requires.before_len.4) c.link_lines.ensures.on }
