-- `graph::take_all` meets its contract. The loop's invariant: what is taken, then what the rules take from here, is what they take from the
-- start; the measure is the places that are left in the order. Assumes nothing.
use Prim.Native.Nat.{◌-◌}
use lib.ListN.{length}
use Rattle.graph.proofs.Taking.{Taking}
use Rattle.graph.specs.Links.{succs_of}
use Rattle.graph.proofs.take_all.Given as goal

abbrev pub invariant-loop-top : goal.invariant-loop-top
invariant-loop-top l = Taking (length l.line) (succs_of l.line l.task l.at l.waiting) l.initial.counts l.initial.stack l.first l.initial.order l.counts l.stack l.order l.top l.taken

abbrev pub decreases-loop-top : goal.decreases-loop-top
decreases-loop-top l = length l.initial.order - l.taken
