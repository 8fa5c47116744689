use mathlib.Core.Path.{sym, ◌∙◌}
use Rattle.words.specs.Words.{words}
use Rattle.plan.specs.Input.{problem_of}
use Rattle.lines.specs.Lines.{lines_in}
use Rattle.lines.proofs.TestLaws.{test_sound}
use Rattle.calls.proofs.timed.time_known.Goals as goal

pub time_lines-requires-clause-taken : goal.time_lines-requires-clause-taken
time_lines-requires-clause-taken c = (c.requires.taken.0, c.requires.taken.1, test_sound (problem_of (words c.args.s.now) c.args.z).n (problem_of (words c.args.s.now) c.args.z).machines (lines_in c.args.cells.now c.args.lens) (sym c.well_formed-2.ensures ∙ c.if-not-well_formed.false))
