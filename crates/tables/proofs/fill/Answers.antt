-- `tables::fill` meets its contract: four parts, lent one after the other.
use mathlib.Core.Path.{sym, ◌∙◌}
use Rattle.words.specs.Words.{words}
use Rattle.tables.proofs.TableLaws.{tabled_laid}
use Rattle.tables.proofs.fill.Goals as goal

pub returns : goal.returns
returns c = tabled_laid (words c.args.s.now) c.args.z c.args.table.now c.fill_steps.new.part c.fill_candidates.new.part c.fill_changes.new.changes c.fill_spans.new.spans c.requires.2
    c.fill_steps.auto.part c.fill_candidates.auto.part c.fill_changes.auto.changes c.fill_spans.auto.spans c.fill_steps.ensures c.fill_candidates.ensures c.fill_changes.ensures c.fill_spans.ensures

pub shape_of-table : goal.shape_of-table
shape_of-table c = (returns c).sized ∙ sym c.requires.2
