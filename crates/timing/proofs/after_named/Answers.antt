-- `timing::after_named` meets its contract. The loop's invariant: what is left, with the latest so far, has the same greatest.
use native.Mathlib.Omega.{arith}
use lib.ListN.{length}
use Rattle.graph.proofs.CountingLaws.{below_at}
use Rattle.timing.proofs.NamedLaws.{looked, greater}
use Rattle.timing.proofs.after_named.Goals as goal

pub offset_bounds-ends-q : goal.offset_bounds-ends-q
offset_bounds-ends-q c = let h = below_at (length c.args.ends.now) c.args.named.now c.loop-q.q-index c.requires c.loop-q-test.true in
    omega arith

pub bounds-ends-q : goal.bounds-ends-q
bounds-ends-q c = below_at (length c.args.ends.now) c.args.named.now c.loop-q.q-index c.requires c.loop-q-test.true

pub loop-q-preserved : goal.loop-q-preserved
loop-q-preserved c = rw c.max-latest.ensures (greater c.loop-q.invariant c.loop-q-test.true)

pub returns : goal.returns
returns c = looked c.loop-q.invariant c.loop-q-test.false
