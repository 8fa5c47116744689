-- `looking::kept::put_ranks` meets its contract. The loop's invariant: those that are left, put from here on, give all of them.
use Prim.Native.Nat.{◌+◌}
use mathlib.Core.List.{◌∷◌, []}
use native.Mathlib.Omega.{arith}
use lib.ListN.{drop}
use Rattle.ranking.specs.Ranking.{ranked}
use Rattle.looking.specs.Rows.{ranks_of}
use Rattle.looking.proofs.RowLaws.{putting_begin, piece_room, putting_again, putting_end}
use Rattle.looking.proofs.KeptLaws.{held_ranks, ranks_next, ranks_end}
use Rattle.looking.proofs.kept.put_ranks.Goals as goal

pub loop-k-init : goal.loop-k-init
loop-k-init c = putting_begin (ranks_of (ranked c.args.three)) c.args.at c.args.ranks.now (omega (arith, c.requires, held_ranks c.args.three))

pub put_rank-next-requires : goal.put_rank-next-requires
put_rank-next-requires c = piece_room c.loop-k.invariant (c.at-rated.result.length ∷ c.at-rated.result.time ∷ []) (ranks_of (drop (c.loop-k.k + 1) (ranked c.args.three))) (ranks_next c.args.three c.loop-k-test.true c.at-rated.result (c.at-rated.ensures c.at-rated.result))

pub loop-k-preserved : goal.loop-k-preserved
loop-k-preserved c = putting_again c.loop-k.invariant (ranks_of (drop (c.loop-k.k + 1) (ranked c.args.three))) (ranks_next c.args.three c.loop-k-test.true c.at-rated.result (c.at-rated.ensures c.at-rated.result)) c.put_rank-next.ensures

pub returns : goal.returns
returns c = putting_end c.loop-k.invariant (ranks_end c.args.three c.loop-k-test.false)
