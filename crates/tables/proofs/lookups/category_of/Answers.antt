-- `tables::lookups::category_of` meets its contract: the cell is one of its region.
use mathlib.Core.Path.{sym, ◌∙◌}
use Rattle.tables.proofs.RegionLaws.{region_at}
use Rattle.tables.proofs.lookups.category_of.Goals as goal

pub returns : goal.returns
returns c = λ p t h. sym (region_at c.args.table.now 384 128 c.args.a c.requires.0) ∙ t.sorted c.args.a h
