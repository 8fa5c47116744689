use mathlib.Core.Path.{◌∙◌}
use borrow.Author.Tests.{le-leb}
use lib.Dec.{leb}
use lib.ListN.{length, take}
use lib.Seq.{length-take-le}
use Rattle.lines.specs.Lines.{lines_in}
use Rattle.intake.specs.Intake.{taken_in}
use Rattle.calls.specs.Timing.{taken_again}
use Rattle.calls.proofs.SheetLaws.{laid_asks}
use Rattle.calls.proofs.AgainLaws.{laid_again, refused_again, long_enough}
use Rattle.calls.proofs.again.time_again.Goals as goal

pub returns-in_default : goal.returns-in_default
returns-in_default c = refused_again c.args.s.now (lines_in (take 2048 c.args.cells.now) c.args.lens) c.args.times c.in_default.ensures.answer ∙ (long_enough (leb 2048 (length c.args.cells.now)) (taken_again (taken_in c.args.s.now).answer c.args.times c.args.s.now (taken_in c.args.s.now) (lines_in (take 2048 c.args.cells.now) c.args.lens)) (le-leb 2048 (length c.args.cells.now) c.if-cells-lt2048.false))

pub repeat_known-requires : goal.repeat_known-requires
repeat_known-requires c = (laid_asks c.args.s.now c.in-Ok.ensures.answer c.in-Ok.ensures.tabled, length-take-le 2048 c.args.cells.now c.if-cells-lt2048.false)

pub returns : goal.returns
returns c = c.repeat_known.ensures ∙ laid_again c.args.s.now (lines_in (take 2048 c.args.cells.now) c.args.lens) c.args.times c.in-Ok.ensures.answer ∙ (long_enough (leb 2048 (length c.args.cells.now)) (taken_again (taken_in c.args.s.now).answer c.args.times c.args.s.now (taken_in c.args.s.now) (lines_in (take 2048 c.args.cells.now) c.args.lens)) (le-leb 2048 (length c.args.cells.now) c.if-cells-lt2048.false))
