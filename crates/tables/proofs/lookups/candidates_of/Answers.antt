-- `tables::candidates_of` meets its contract.
use mathlib.Core.Path.{◌∙◌}
use native.Mathlib.Omega.{arith}
use Rattle.tables.proofs.ListLaws.{region_most, offsets_rise, offsets_within, numbers_are}
use Rattle.tables.proofs.lookups.candidates_of.Goals as goal

pub numbers_of-requires : goal.numbers_of-requires
numbers_of-requires c = let fits = region_most c.args.table.now 1539 2048 in
    let w = offsets_within c.args.table.now 1410 1539 2048 c.requires.tabled.able c.args.a c.requires.known c.requires.few fits in
    (omega arith, offsets_rise c.args.table.now 1410 1539 2048 c.requires.tabled.able c.args.a c.requires.known c.requires.few fits, omega arith)

pub returns : goal.returns
returns c = λ p t k f. c.numbers_of.ensures ∙ numbers_are c.args.table.now 1410 1539 2048 t.able c.args.a k f (region_most c.args.table.now 1539 2048)
