-- `active::seats::fill_on` meets its contract. The loop's invariant: the cells passed are given.
use native.Mathlib.Omega.{arith}
use Rattle.active.proofs.KeptLaws.{manned_more}
use Rattle.active.proofs.seats.fill_on.Goals as goal

pub loop-a-preserved : goal.loop-a-preserved
loop-a-preserved c = manned_more c.loop-a.invariant (omega (arith, c.loop-a-test.true, c.requires.1.activities.1)) c.machine_of.ensures

pub returns : goal.returns
returns c = record { sized = c.loop-a.invariant.sized; given = λ i h. c.loop-a.invariant.given i (omega (arith, h, c.loop-a-test.false)) }
