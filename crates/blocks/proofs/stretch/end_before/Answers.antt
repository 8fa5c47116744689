-- `blocks::stretch::end_before` meets its contract.
use Prim.Native.Nat.{◌-◌}
use native.Mathlib.Omega.{arith}
use lib.ListN.{length}
use Rattle.graph.proofs.CountingLaws.{below_at}
use Rattle.blocks.proofs.StretchLaws.{front, behind_front}
use Rattle.blocks.proofs.stretch.end_before.Goals as goal

pub returns-then-at-eq0 : goal.returns-then-at-eq0
returns-then-at-eq0 c = front c.args.ends.now c.args.line.now c.args.at c.if-at-eq0.true

pub offset_bounds-ends-x : goal.offset_bounds-ends-x
offset_bounds-ends-x c = let h = below_at (length c.args.ends.now) c.args.line.now (c.args.at - 1) c.requires.1 (omega arith) in omega arith

pub bounds-ends-x : goal.bounds-ends-x
bounds-ends-x c = let h = below_at (length c.args.ends.now) c.args.line.now (c.args.at - 1) c.requires.1 (omega arith) in omega arith

pub returns : goal.returns
returns c = behind_front c.args.ends.now c.args.line.now c.args.at c.if-at-eq0.false
