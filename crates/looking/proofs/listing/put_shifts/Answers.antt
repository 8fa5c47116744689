-- `looking::listing::put_shifts` meets its contract. The loop's invariant: the shifts that are left, put from here on, give all of them.
use Prim.Native.Nat.{◌+◌, ◌-◌}
use native.Mathlib.Omega.{arith}
use Rattle.moves.specs.declared.Move.TheVariants.{Shift}
use Rattle.blocks.specs.BlockMoves.{shifts}
use Rattle.looking.specs.Rows.{row_of, rows_of}
use Rattle.looking.proofs.RowLaws.{putting_begin, piece_room, putting_again, putting_end}
use Rattle.looking.proofs.ListingLaws.{shifts_next, shifts_end}
use Rattle.looking.proofs.listing.put_shifts.Goals as goal

pub loop-i-init : goal.loop-i-init
loop-i-init c = (c.requires.0, putting_begin (rows_of (shifts c.args.machine c.args.to c.args.from (c.args.end - c.args.from))) c.args.at c.args.rows.now c.requires.1)

pub put_move-next-requires : goal.put_move-next-requires
put_move-next-requires c = piece_room c.loop-i.invariant.1 (row_of (Shift c.args.machine c.loop-i.i c.args.to)) (rows_of (shifts c.args.machine c.args.to (c.loop-i.i + 1) (c.args.end - (c.loop-i.i + 1)))) (shifts_next c.args.machine c.args.to c.loop-i.i c.args.end c.loop-i-test.true)

pub loop-i-preserved : goal.loop-i-preserved
loop-i-preserved c = (omega arith, putting_again c.loop-i.invariant.1 (rows_of (shifts c.args.machine c.args.to (c.loop-i.i + 1) (c.args.end - (c.loop-i.i + 1)))) (shifts_next c.args.machine c.args.to c.loop-i.i c.args.end c.loop-i-test.true) c.put_move-next.ensures)

pub returns : goal.returns
returns c = putting_end c.loop-i.invariant.1 (shifts_end c.args.machine c.args.to c.loop-i.i c.args.end c.loop-i-test.false)
