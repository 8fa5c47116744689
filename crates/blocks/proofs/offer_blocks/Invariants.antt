-- `blocks::offer_blocks` meets its contract. The loop's invariant: offering what is left gives the best three of all.
use Prim.Native.Nat.{◌-◌, ◌≤◌}
use mathlib.Core.Path.{◌≡◌}
use lib.ListN.{length}
use Rattle.lines.specs.Lines.{lines_in}
use Rattle.ranking.specs.Ranking.{ranked}
use Rattle.blocks.proofs.BlockLaws.{Offering}
use Rattle.blocks.proofs.offer_blocks.Given as goal

abbrev pub invariant-loop-i : goal.invariant-loop-i
invariant-loop-i l = (l.i ≤ length l.path)
    × (length l.heads ≡ length l.initial.heads)
    × Offering l.all (lines_in l.cells l.lens) l.table l.starts l.ends l.tail l.path l.machines l.places (ranked l.three) l.i

abbrev pub decreases-loop-i : goal.decreases-loop-i
decreases-loop-i l = length l.path - l.i
