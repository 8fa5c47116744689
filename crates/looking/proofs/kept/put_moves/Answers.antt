-- `looking::kept::put_moves` meets its contract. The loop's invariant: those that are left, put from here on, give all of them.
use Prim.Native.Nat.{◌+◌}
use native.Mathlib.Omega.{arith}
use lib.ListN.{drop}
use Rattle.ranking.specs.Ranking.{ranked}
use Rattle.trial.specs.Trial.{moves_of}
use Rattle.looking.specs.Rows.{row_of, rows_of}
use Rattle.looking.proofs.RowLaws.{putting_begin, piece_room, putting_again, putting_end, row_long}
use Rattle.looking.proofs.KeptLaws.{held_rows, rows_next, rows_end}
use Rattle.looking.proofs.kept.put_moves.Goals as goal

pub loop-k-init : goal.loop-k-init
loop-k-init c = putting_begin (rows_of (moves_of (ranked c.args.three))) c.args.at c.args.rows.now (omega (arith, c.requires, held_rows c.args.three))

pub put_move-next-requires : goal.put_move-next-requires
put_move-next-requires c = omega (arith, row_long c.at-rated.result.made, piece_room c.loop-k.invariant (row_of c.at-rated.result.made) (rows_of (moves_of (drop (c.loop-k.k + 1) (ranked c.args.three)))) (rows_next c.args.three c.loop-k-test.true c.at-rated.result (c.at-rated.ensures c.at-rated.result)))

pub loop-k-preserved : goal.loop-k-preserved
loop-k-preserved c = putting_again c.loop-k.invariant (rows_of (moves_of (drop (c.loop-k.k + 1) (ranked c.args.three)))) (rows_next c.args.three c.loop-k-test.true c.at-rated.result (c.at-rated.ensures c.at-rated.result)) c.put_move-next.ensures

pub returns : goal.returns
returns c = putting_end c.loop-k.invariant (rows_end c.args.three c.loop-k-test.false)
