-- `looking::listing::put_block` meets its contract.
use mathlib.Core.Path.{sym, ◌∙◌}
use native.Mathlib.Omega.{arith}
use Rattle.looking.proofs.RowLaws.{put_then, put_as, put_long}
use Rattle.looking.proofs.ListingLaws.{pair_rows, more_rows, more_long, block_room}
use Rattle.looking.proofs.listing.put_block.Goals as goal

pub put_move-one-requires : goal.put_move-one-requires
put_move-one-requires c = omega (arith, c.requires.2, block_room c.args.machine c.args.first c.args.last)

pub overflow_add-next : goal.overflow_add-next
overflow_add-next c = omega (arith, c.requires.0, c.requires.1)

pub shape_of-rows-then-last-next : goal.shape_of-rows-then-last-next
shape_of-rows-then-last-next c = put_long c.put_move-one.ensures

pub returns-then-last-next : goal.returns-then-last-next
returns-then-last-next c = put_as (sym (pair_rows c.args.machine c.args.first c.args.last c.if-last-next.true)) c.put_move-one.ensures

pub overflow_sub-before : goal.overflow_sub-before
overflow_sub-before c = omega (arith, c.requires.0, c.requires.1)

pub put_move-two-requires : goal.put_move-two-requires
put_move-two-requires c = omega (arith, c.requires.2, more_long c.args.machine c.args.first c.args.last c.if-last-next.false, c.put_move-one.ensures.ends, put_long c.put_move-one.ensures)

pub overflow_add-third : goal.overflow_add-third
overflow_add-third c = omega (arith, c.requires.0, c.requires.1)

pub overflow_add-behind : goal.overflow_add-behind
overflow_add-behind c = omega (arith, c.requires.0, c.requires.1)

pub put_shifts-three-requires : goal.put_shifts-three-requires
put_shifts-three-requires c = (omega (arith, c.if-last-next.false), omega (arith, c.requires.2, more_long c.args.machine c.args.first c.args.last c.if-last-next.false, c.put_move-one.ensures.ends, c.put_move-two.ensures.ends, put_long c.put_move-one.ensures, put_long c.put_move-two.ensures))

pub put_shifts-requires : goal.put_shifts-requires
put_shifts-requires c = (omega (arith, c.if-last-next.false), omega (arith, c.requires.2, more_long c.args.machine c.args.first c.args.last c.if-last-next.false, c.put_move-one.ensures.ends, c.put_move-two.ensures.ends, c.put_shifts-three.ensures.ends, put_long c.put_move-one.ensures, put_long c.put_move-two.ensures, put_long c.put_shifts-three.ensures))

pub shape_of-rows : goal.shape_of-rows
shape_of-rows c = put_long c.put_shifts.ensures ∙ put_long c.put_shifts-three.ensures ∙ put_long c.put_move-two.ensures ∙ put_long c.put_move-one.ensures

pub returns : goal.returns
returns c = put_as (sym (more_rows c.args.machine c.args.first c.args.last c.if-last-next.false)) (put_then c.put_move-one.ensures (put_then c.put_move-two.ensures (put_then c.put_shifts-three.ensures c.put_shifts.ensures)))
