-- `lines::count_lines` meets its contract. The loop's invariant: the lines passed are counted, and those that are left decide. Assumes nothing.
use Prim.Native.Nat.{◌*◌}
use mathlib.Core.Path.{◌≡◌, refl, sym, ◌∙◌}
use native.Mathlib.Omega.{arith}
use borrow.Author.Rules.{rules}
use lib.ListN.{length, get_or}
use Rattle.lines.proofs.CountLaws.{count_stop, count_asks, count_again, count_end}
use Rattle.lines.proofs.StretchLaws.{part_cells}
use Rattle.lines.proofs.count_lines.Goals as goal

pub returns-then-not-all_below : goal.returns-then-not-all_below
returns-then-not-all_below c = let k : length c.args.lens ≡ 16 = search rules in
    let f = c.requires.2 c.loop-m.m in
    count_stop c.loop-m.invariant k c.requires.2 c.loop-m-test.true (part_cells c.args.cells.now (128 * c.loop-m.m) (get_or c.args.lens c.loop-m.m 0) _ refl (omega arith)) (sym c.all_below.ensures ∙ c.if-not-all_below.true)

pub tally_by-requires : goal.tally_by-requires
tally_by-requires c = let k : length c.args.lens ≡ 16 = search rules in
    let f = c.requires.2 c.loop-m.m in
    count_asks c.loop-m.invariant k c.requires.2 c.loop-m-test.true (part_cells c.args.cells.now (128 * c.loop-m.m) (get_or c.args.lens c.loop-m.m 0) _ refl (omega arith)) (sym c.all_below.ensures ∙ c.if-not-all_below.false) (omega (arith, c.loop-m.invariant.sized))

pub loop-m-preserved : goal.loop-m-preserved
loop-m-preserved c = let k : length c.args.lens ≡ 16 = search rules in
    let f = c.requires.2 c.loop-m.m in
    count_again c.loop-m.invariant k c.requires.2 c.loop-m-test.true (part_cells c.args.cells.now (128 * c.loop-m.m) (get_or c.args.lens c.loop-m.m 0) _ refl (omega arith)) (sym c.all_below.ensures ∙ c.if-not-all_below.false) (omega (arith, c.loop-m.invariant.sized))
    c.tally_by.ensures

pub returns : goal.returns
returns c = let k : length c.args.lens ≡ 16 = search rules in
    count_end c.loop-m.invariant k c.loop-m-test.false
