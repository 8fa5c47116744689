-- `tables::waiting_for` meets its contract.
use mathlib.Core.Path.{◌∙◌}
use native.Mathlib.Omega.{arith}
use Rattle.tables.proofs.ListLaws.{region_most, offsets_rise, offsets_within, numbers_are}
use Rattle.tables.proofs.lookups.waiting_for.Goals as goal

pub numbers_of-requires : goal.numbers_of-requires
numbers_of-requires c = let fits = region_most c.args.table.now 1154 256 in
    let w = offsets_within c.args.table.now 1025 1154 256 c.requires.tabled.named_by c.args.a c.requires.known c.requires.few fits in
    (omega arith, offsets_rise c.args.table.now 1025 1154 256 c.requires.tabled.named_by c.args.a c.requires.known c.requires.few fits, omega arith)

pub returns : goal.returns
returns c = λ p t k f. c.numbers_of.ensures ∙ numbers_are c.args.table.now 1025 1154 256 t.named_by c.args.a k f (region_most c.args.table.now 1154 256)
