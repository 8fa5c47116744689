-- `blocks::offer_blocks` meets its contract. The loop's invariant: offering what is left gives the best three of all.
use mathlib.Core.Path.{refl, ◌∙◌}
use native.Mathlib.Omega.{arith}
use Rattle.lines.specs.Lines.{lines_in}
use Rattle.blocks.proofs.PathLaws.{scanned}
use Rattle.blocks.proofs.BlockLaws.{offering_begin, offering_all, offering_again}
use Rattle.blocks.proofs.offer_blocks.Goals as goal

pub loop-i-init : goal.loop-i-init
loop-i-init c = (omega arith, refl, offering_begin c.args.all (lines_in c.args.cells.now c.args.lens.now) c.args.table.now c.args.starts.now c.args.ends.now c.args.tail.now c.args.path.now c.args.machines.now c.args.places.now c.none-three.ensures)

pub block_end-last-requires : goal.block_end-last-requires
block_end-last-requires c = (scanned c.requires.0.searched.pathed c.requires.0.searched.weighed.few, c.loop-i-test.true)

pub overflow_add-i : goal.overflow_add-i
overflow_add-i c = let t = scanned c.requires.0.searched.pathed c.requires.0.searched.weighed.few in omega (arith, c.block_end-last.ensures.within, t.few)

pub loop-i-smaller : goal.loop-i-smaller
loop-i-smaller c = omega (arith, c.block_end-last.ensures.within, c.block_end-last.ensures.rising)

pub loop-i-preserved : goal.loop-i-preserved
loop-i-preserved c = (omega (arith, c.block_end-last.ensures.within), c.offer_run-three.auto.heads ∙ c.loop-i.invariant.1, offering_again c.args.all (lines_in c.args.cells.now c.args.lens.now) c.args.table.now c.args.starts.now c.args.ends.now c.args.tail.now c.args.path.now c.args.machines.now c.args.places.now c.loop-i.invariant.2 c.block_end-last.ensures c.offer_run-three.ensures)

pub shape_of-heads : goal.shape_of-heads
shape_of-heads c = c.loop-i.invariant.1

pub returns : goal.returns
returns c = offering_all c.args.all (lines_in c.args.cells.now c.args.lens.now) c.args.table.now c.args.starts.now c.args.ends.now c.args.tail.now c.args.path.now c.args.machines.now c.args.places.now c.loop-i.i c.loop-i.invariant.2 c.loop-i-test.false c.loop-i.invariant.0
