-- `looking::kept::put_rank` meets its contract.
use native.Mathlib.Omega.{arith}
use lib.ListN.{length-set}
use Rattle.looking.proofs.RowLaws.{put_two}
use Rattle.looking.proofs.kept.put_rank.Goals as goal

pub bounds-ranks-at-2 : goal.bounds-ranks-at-2
bounds-ranks-at-2 c = simp length-set (omega arith)

pub returns : goal.returns
returns c = put_two c.args.ranks.now c.args.at c.args.far c.args.time
