-- `active::scanning::put_ranks` meets its contract. The loop's invariant: putting the rest upon the ranks so far gives what putting all does.
use native.Mathlib.Omega.{arith}
use lib.ListN.{length}
use Rattle.graph.proofs.CountingLaws.{below_at}
use Rattle.active.proofs.RankLaws.{rank_again, rank_end}
use Rattle.active.proofs.scanning.put_ranks.Goals as goal

pub offset_bounds-ranks-a : goal.offset_bounds-ranks-a
offset_bounds-ranks-a c = let h = below_at (length c.args.ranks.now) c.args.activities.now c.loop-i.i c.requires c.loop-i-test.true in omega (arith, h, c.loop-i.invariant.sized)

pub bounds-ranks-a : goal.bounds-ranks-a
bounds-ranks-a c = let h = below_at (length c.args.ranks.now) c.args.activities.now c.loop-i.i c.requires c.loop-i-test.true in omega (arith, h, c.loop-i.invariant.sized)

pub loop-i-preserved : goal.loop-i-preserved
loop-i-preserved c = rank_again c.loop-i.invariant c.loop-i-test.true

pub returns : goal.returns
returns c = rank_end c.loop-i.invariant c.loop-i-test.false
