-- `looking::listing::put_run` meets its contract: a single activity has no moves.
use mathlib.Core.Path.{sym, ap}
use native.Mathlib.Omega.{arith}
use lib.ListN.{length, get_or}
use Rattle.graph.proofs.CountingLaws.{below_at}
use Rattle.looking.proofs.RowLaws.{put_none, put_as, put_long}
use Rattle.looking.proofs.ListingLaws.{own_none, own_one}
use Rattle.looking.proofs.listing.put_run.Goals as goal

pub offset_bounds-path-i : goal.offset_bounds-path-i
offset_bounds-path-i c = omega (arith, c.requires.scanned.2.rising, c.requires.scanned.2.within)

pub bounds-path-i : goal.bounds-path-i
bounds-path-i c = omega (arith, c.requires.scanned.2.rising, c.requires.scanned.2.within)

pub offset_bounds-path-r : goal.offset_bounds-path-r
offset_bounds-path-r c = omega (arith, c.requires.scanned.2.rising, c.requires.scanned.2.within)

pub bounds-path-r : goal.bounds-path-r
bounds-path-r c = omega (arith, c.requires.scanned.2.rising, c.requires.scanned.2.within)

pub offset_bounds-machines-a : goal.offset_bounds-machines-a
offset_bounds-machines-a c = let x = below_at (length c.args.machines.now) c.args.path.now c.args.i c.requires.scanned.0.known (omega (arith, c.requires.scanned.2.rising, c.requires.scanned.2.within)) in let y = below_at (length c.args.machines.now) c.args.path.now c.args.r c.requires.scanned.0.known c.requires.scanned.2.within in omega (arith, x, y, c.requires.scanned.0.placed)

pub bounds-machines-a : goal.bounds-machines-a
bounds-machines-a c = let x = below_at (length c.args.machines.now) c.args.path.now c.args.i c.requires.scanned.0.known (omega (arith, c.requires.scanned.2.rising, c.requires.scanned.2.within)) in let y = below_at (length c.args.machines.now) c.args.path.now c.args.r c.requires.scanned.0.known c.requires.scanned.2.within in omega (arith, x, y, c.requires.scanned.0.placed)

pub offset_bounds-places-a : goal.offset_bounds-places-a
offset_bounds-places-a c = let x = below_at (length c.args.machines.now) c.args.path.now c.args.i c.requires.scanned.0.known (omega (arith, c.requires.scanned.2.rising, c.requires.scanned.2.within)) in let y = below_at (length c.args.machines.now) c.args.path.now c.args.r c.requires.scanned.0.known c.requires.scanned.2.within in omega (arith, x, y, c.requires.scanned.0.placed)

pub bounds-places-a : goal.bounds-places-a
bounds-places-a c = let x = below_at (length c.args.machines.now) c.args.path.now c.args.i c.requires.scanned.0.known (omega (arith, c.requires.scanned.2.rising, c.requires.scanned.2.within)) in let y = below_at (length c.args.machines.now) c.args.path.now c.args.r c.requires.scanned.0.known c.requires.scanned.2.within in omega (arith, x, y, c.requires.scanned.0.placed)

pub offset_bounds-places-b : goal.offset_bounds-places-b
offset_bounds-places-b c = let x = below_at (length c.args.machines.now) c.args.path.now c.args.i c.requires.scanned.0.known (omega (arith, c.requires.scanned.2.rising, c.requires.scanned.2.within)) in let y = below_at (length c.args.machines.now) c.args.path.now c.args.r c.requires.scanned.0.known c.requires.scanned.2.within in omega (arith, x, y, c.requires.scanned.0.placed)

pub bounds-places-b : goal.bounds-places-b
bounds-places-b c = let x = below_at (length c.args.machines.now) c.args.path.now c.args.i c.requires.scanned.0.known (omega (arith, c.requires.scanned.2.rising, c.requires.scanned.2.within)) in let y = below_at (length c.args.machines.now) c.args.path.now c.args.r c.requires.scanned.0.known c.requires.scanned.2.within in omega (arith, x, y, c.requires.scanned.0.placed)

pub returns-then-last-first : goal.returns-then-last-first
returns-then-last-first c = put_as (sym (own_none (get_or c.args.machines.now (get_or c.args.path.now c.args.i 0) 0) (get_or c.args.places.now (get_or c.args.path.now c.args.i 0) 0) (get_or c.args.places.now (get_or c.args.path.now c.args.r 0) 0) c.if-last-first.true)) (put_none c.args.rows.now c.args.at)

pub put_block-requires : goal.put_block-requires
put_block-requires c = (c.if-last-first.false, c.requires.scanned.0.low (get_or c.args.path.now c.args.r 0), omega (arith, c.requires.r_in_bounds, ap length (own_one (get_or c.args.machines.now (get_or c.args.path.now c.args.i 0) 0) (get_or c.args.places.now (get_or c.args.path.now c.args.i 0) 0) (get_or c.args.places.now (get_or c.args.path.now c.args.r 0) 0) c.if-last-first.false)))

pub shape_of-rows : goal.shape_of-rows
shape_of-rows c = put_long c.put_block.ensures

pub returns : goal.returns
returns c = put_as (sym (own_one (get_or c.args.machines.now (get_or c.args.path.now c.args.i 0) 0) (get_or c.args.places.now (get_or c.args.path.now c.args.i 0) 0) (get_or c.args.places.now (get_or c.args.path.now c.args.r 0) 0) c.if-last-first.false)) c.put_block.ensures
