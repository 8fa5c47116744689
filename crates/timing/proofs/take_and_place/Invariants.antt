-- `timing::take_and_place` meets its contract. The loop's invariant: what is taken, then what the rules take from here, is the timing order, and
-- what is taken is placed; the measure is the places that are left in the order. Assumes nothing.
use Prim.Native.Nat.{◌-◌}
use mathlib.Core.Path.{◌≡◌}
use lib.ListN.{length}
use Rattle.words.specs.Words.{words}
use Rattle.graph.specs.Links.{succs_of}
use Rattle.graph.proofs.Taking.{Taking}
use Rattle.plan.specs.Input.{problem_of}
use Rattle.lines.specs.Lines.{lines_in}
use Rattle.timing.proofs.PlacingLaws.{Underway}
use Rattle.timing.proofs.take_and_place.Given as goal

abbrev pub invariant-loop-top : goal.invariant-loop-top
invariant-loop-top l = Taking (length l.after) (succs_of l.after l.nexts l.at l.waiting) l.initial.counts l.initial.stack l.first l.initial.order l.counts l.stack l.order l.top l.taken
    × (length l.starts ≡ l.z.activities) × (length l.ends ≡ l.z.activities) × Underway (problem_of (words l.s) l.z) (lines_in l.cells l.lens) l.starts l.ends l.taken

abbrev pub decreases-loop-top : goal.decreases-loop-top
decreases-loop-top l = length l.initial.order - l.taken
