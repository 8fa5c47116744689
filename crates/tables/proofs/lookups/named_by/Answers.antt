-- `tables::named_by` meets its contract.
use mathlib.Core.Path.{◌∙◌}
use native.Mathlib.Omega.{arith}
use Rattle.tables.proofs.ListLaws.{region_most, offsets_rise, offsets_within, numbers_are}
use Rattle.tables.proofs.lookups.named_by.Goals as goal

pub numbers_of-requires : goal.numbers_of-requires
numbers_of-requires c = let fits = region_most c.args.table.now 769 256 in
    let w = offsets_within c.args.table.now 640 769 256 c.requires.tabled.naming c.args.a c.requires.known c.requires.few fits in
    (omega arith, offsets_rise c.args.table.now 640 769 256 c.requires.tabled.naming c.args.a c.requires.known c.requires.few fits, omega arith)

pub returns : goal.returns
returns c = λ p t k f. c.numbers_of.ensures ∙ numbers_are c.args.table.now 640 769 256 t.naming c.args.a k f (region_most c.args.table.now 769 256)
