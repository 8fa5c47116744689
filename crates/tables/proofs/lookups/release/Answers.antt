-- `tables::lookups::release` meets its contract: the cell is one of its region.
use mathlib.Core.Path.{sym, ◌∙◌}
use Rattle.tables.proofs.RegionLaws.{region_at}
use Rattle.tables.proofs.lookups.release.Goals as goal

pub returns : goal.returns
returns c = λ p t h. sym (region_at c.args.table.now 256 128 c.args.a c.requires.0) ∙ t.released c.args.a h
