-- `lines::linking::link_each` meets its contract. The loop's invariant: the lines that are left write from here what all write from the start. Assumes nothing.
use Prim.Native.Nat.{◌*◌}
use mathlib.Core.Path.{◌≡◌, refl}
use native.Mathlib.Omega.{arith}
use borrow.Author.Rules.{rules}
use lib.ListN.{length, get_or}
use Rattle.lines.proofs.StretchLaws.{part_cells}
use Rattle.lines.proofs.LinkingLoops.{link_asks, link_again, link_end}
use Rattle.lines.proofs.linking.link_each.Goals as goal

pub link_line-requires : goal.link_line-requires
link_line-requires c = let k : length c.args.lens ≡ 16 = search rules in
    let f = c.requires.1 c.loop-m.m in
    link_asks c.loop-m.invariant k c.loop-m-test.true (part_cells c.args.cells.now (128 * c.loop-m.m) (get_or c.args.lens c.loop-m.m 0) _ refl (omega arith)) c.requires.3

pub loop-m-preserved : goal.loop-m-preserved
loop-m-preserved c = let k : length c.args.lens ≡ 16 = search rules in
    let f = c.requires.1 c.loop-m.m in
    link_again c.loop-m.invariant k c.loop-m-test.true (part_cells c.args.cells.now (128 * c.loop-m.m) (get_or c.args.lens c.loop-m.m 0) _ refl (omega arith)) c.link_line.ensures

pub returns : goal.returns
returns c = let k : length c.args.lens ≡ 16 = search rules in
    link_end c.loop-m.invariant k c.loop-m-test.false
