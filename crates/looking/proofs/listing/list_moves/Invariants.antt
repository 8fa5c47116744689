-- `looking::listing::list_moves` meets its contract. The loop's invariant: the moves that are left, put from here on, give all of them.
use Prim.Native.Nat.{◌-◌, ◌≤◌}
use lib.ListN.{length, get_or, drop}
use Rattle.blocks.specs.BlockMoves.{blocks_by}
use Rattle.blocks.specs.Scanning.{own_moves_of_all}
use Rattle.looking.specs.Rows.{rows_of}
use Rattle.looking.proofs.RowLaws.{Putting}
use Rattle.looking.proofs.listing.list_moves.Given as goal

abbrev pub invariant-loop-i : goal.invariant-loop-i
invariant-loop-i l = (l.i ≤ length l.path) × Putting (rows_of (own_moves_of_all (blocks_by (λ a. get_or l.machines a 0) (λ a. get_or l.places a 0) l.path))) (rows_of (own_moves_of_all (blocks_by (λ a. get_or l.machines a 0) (λ a. get_or l.places a 0) (drop l.i l.path)))) 0 l.initial.rows l.rows l.at

abbrev pub decreases-loop-i : goal.decreases-loop-i
decreases-loop-i l = length l.path - l.i
