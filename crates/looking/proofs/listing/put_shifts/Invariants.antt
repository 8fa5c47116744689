-- `looking::listing::put_shifts` meets its contract. The loop's invariant: the shifts that are left, put from here on, give all of them.
use Prim.Native.Nat.{◌-◌, ◌≤◌}
use Rattle.blocks.specs.BlockMoves.{shifts}
use Rattle.looking.specs.Rows.{rows_of}
use Rattle.looking.proofs.RowLaws.{Putting}
use Rattle.looking.proofs.listing.put_shifts.Given as goal

abbrev pub invariant-loop-i : goal.invariant-loop-i
invariant-loop-i l = (l.i ≤ l.end) × Putting (rows_of (shifts l.machine l.to l.from (l.end - l.from))) (rows_of (shifts l.machine l.to l.i (l.end - l.i))) l.at l.initial.rows l.rows l.next
