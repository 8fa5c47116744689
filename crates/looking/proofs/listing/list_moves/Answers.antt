-- `looking::listing::list_moves` meets its contract. The loop's invariant: the moves that are left, put from here on, give all of them.
use Prim.Native.Nat.{◌+◌}
use native.Mathlib.Omega.{arith}
use lib.ListN.{get_or, drop}
use Rattle.blocks.specs.BlockMoves.{block, closed, blocks_by}
use Rattle.blocks.specs.Scanning.{own_moves_of_all}
use Rattle.looking.specs.Rows.{rows_of}
use Rattle.looking.proofs.RowLaws.{putting_begin, piece_room, putting_again, putting_end, rows_long}
use Rattle.looking.proofs.ListingLaws.{runs_next, runs_end, few}
use Rattle.looking.proofs.listing.list_moves.Goals as goal

pub loop-i-init : goal.loop-i-init
loop-i-init c = (omega arith, putting_begin (rows_of (own_moves_of_all (blocks_by (λ a. get_or c.args.machines.now a 0) (λ a. get_or c.args.places.now a 0) c.args.path.now))) 0 c.args.rows.now (omega (arith, c.requires.1, c.requires.2, rows_long (own_moves_of_all (blocks_by (λ a. get_or c.args.machines.now a 0) (λ a. get_or c.args.places.now a 0) c.args.path.now)), few (λ a. get_or c.args.machines.now a 0) (λ a. get_or c.args.places.now a 0) c.args.path.now)))

pub block_end-last-requires : goal.block_end-last-requires
block_end-last-requires c = (c.requires.0, c.loop-i-test.true)

pub put_run-at-requires : goal.put_run-at-requires
put_run-at-requires c = record { scanned = (c.requires.0, c.requires.1, c.block_end-last.ensures); r_in_bounds = piece_room c.loop-i.invariant.1 (rows_of (own_moves_of_all (closed (block (get_or c.args.machines.now (get_or c.args.path.now c.loop-i.i 0) 0) (get_or c.args.places.now (get_or c.args.path.now c.loop-i.i 0) 0) (get_or c.args.places.now (get_or c.args.path.now c.block_end-last.result 0) 0))))) (rows_of (own_moves_of_all (blocks_by (λ a. get_or c.args.machines.now a 0) (λ a. get_or c.args.places.now a 0) (drop (c.block_end-last.result + 1) c.args.path.now)))) (runs_next (λ a. get_or c.args.machines.now a 0) (λ a. get_or c.args.places.now a 0) c.block_end-last.ensures) }

pub overflow_add-i : goal.overflow_add-i
overflow_add-i c = omega (arith, c.block_end-last.ensures.within, c.requires.1)

pub loop-i-smaller : goal.loop-i-smaller
loop-i-smaller c = omega (arith, c.block_end-last.ensures.within, c.block_end-last.ensures.rising)

pub loop-i-preserved : goal.loop-i-preserved
loop-i-preserved c = (omega (arith, c.block_end-last.ensures.within), putting_again c.loop-i.invariant.1 (rows_of (own_moves_of_all (blocks_by (λ a. get_or c.args.machines.now a 0) (λ a. get_or c.args.places.now a 0) (drop (c.block_end-last.result + 1) c.args.path.now)))) (runs_next (λ a. get_or c.args.machines.now a 0) (λ a. get_or c.args.places.now a 0) c.block_end-last.ensures) c.put_run-at.ensures)

pub shape_of-rows : goal.shape_of-rows
shape_of-rows c = c.loop-i.invariant.1.long

pub returns : goal.returns
returns c = putting_end c.loop-i.invariant.1 (runs_end (λ a. get_or c.args.machines.now a 0) (λ a. get_or c.args.places.now a 0) c.args.path.now c.loop-i.i (omega (arith, c.loop-i.invariant.0, c.loop-i-test.false)))
