-- `active::seats::forget` meets its contract. The loop's invariant: the seats of the tasks passed are forgotten.
use mathlib.Core.Path.{refl}
use native.Mathlib.Omega.{arith}
use Rattle.active.specs.Kept.{forgotten}
use Rattle.active.proofs.KeptLaws.{forget_one, forget_none}
use Rattle.active.proofs.seats.forget.Goals as goal

pub loop-k-init : goal.loop-k-init
unfolding forgotten
loop-k-init c = (omega arith, refl)

pub loop-k-preserved-then-kept-k : goal.loop-k-preserved-then-kept-k
loop-k-preserved-then-kept-k c = (omega (arith, c.loop-k-test.true), forget_none c.args.n c.args.m c.args.kept.now c.loop-k.k c.loop-k.invariant.1 c.if-kept-k.true)

pub loop-k-preserved : goal.loop-k-preserved
loop-k-preserved c = (omega (arith, c.loop-k-test.true), forget_one c.args.n c.args.m c.args.kept.now c.loop-k.k c.loop-k.invariant.1 c.if-kept-k.false)
