-- `path::following::after_all` meets its contract. The loop's invariant: what is left, with the longest so far, has the same greatest.
use lib.ListN.{length}
use Rattle.graph.proofs.CountingLaws.{below_at}
use Rattle.timing.proofs.NamedLaws.{looked}
use Rattle.path.proofs.TailLaws.{longest_again}
use Rattle.path.proofs.following.after_all.Goals as goal

pub span_and_tail-requires : goal.span_and_tail-requires
span_and_tail-requires c = (below_at (length c.args.tail.now) c.args.list.now c.loop-x.x-index c.requires.0 c.loop-x-test.true, c.requires.1)

pub loop-x-preserved : goal.loop-x-preserved
loop-x-preserved c = longest_again c.loop-x.invariant c.loop-x-test.true c.span_and_tail.ensures c.max-longest.ensures

pub returns : goal.returns
returns c = looked c.loop-x.invariant c.loop-x-test.false
