-- `blocks::stretch::after_at` meets its contract.
use lib.ListN.{length}
use native.Mathlib.Omega.{arith}
use Rattle.graph.proofs.CountingLaws.{below_at}
use Rattle.blocks.proofs.stretch.after_at.Goals as goal

pub offset_bounds-ends-x : goal.offset_bounds-ends-x
offset_bounds-ends-x c = let h = below_at (length c.args.tail.now) c.args.line.now c.args.at c.requires.0 c.if-at-line.true in omega (arith, c.requires.1.started, c.requires.1.ended)

pub bounds-ends-x : goal.bounds-ends-x
bounds-ends-x c = let h = below_at (length c.args.tail.now) c.args.line.now c.args.at c.requires.0 c.if-at-line.true in omega (arith, c.requires.1.started, c.requires.1.ended)

pub offset_bounds-starts-x : goal.offset_bounds-starts-x
offset_bounds-starts-x c = let h = below_at (length c.args.tail.now) c.args.line.now c.args.at c.requires.0 c.if-at-line.true in omega (arith, c.requires.1.started, c.requires.1.ended)

pub bounds-starts-x : goal.bounds-starts-x
bounds-starts-x c = let h = below_at (length c.args.tail.now) c.args.line.now c.args.at c.requires.0 c.if-at-line.true in omega (arith, c.requires.1.started, c.requires.1.ended)

pub offset_bounds-tail-x : goal.offset_bounds-tail-x
offset_bounds-tail-x c = let h = below_at (length c.args.tail.now) c.args.line.now c.args.at c.requires.0 c.if-at-line.true in omega (arith, c.requires.1.started, c.requires.1.ended)

pub bounds-tail-x : goal.bounds-tail-x
bounds-tail-x c = let h = below_at (length c.args.tail.now) c.args.line.now c.args.at c.requires.0 c.if-at-line.true in omega (arith, c.requires.1.started, c.requires.1.ended)
