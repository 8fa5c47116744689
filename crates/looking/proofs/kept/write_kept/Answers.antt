-- `looking::kept::write_kept` meets its contract.
use mathlib.Core.Path.{◌∙◌}
use native.Mathlib.Omega.{arith}
use lib.ListN.{length-append}
use Rattle.ranking.specs.Ranking.{ranked}
use Rattle.trial.specs.Trial.{moves_of}
use Rattle.looking.specs.Rows.{rows_of, ranks_of}
use Rattle.looking.proofs.RowLaws.{put_then, put_long, put_over}
use Rattle.looking.proofs.KeptLaws.{held_rows, held_ranks}
use Rattle.looking.proofs.kept.write_kept.Goals as goal

pub put_moves-requires : goal.put_moves-requires
put_moves-requires c = omega (arith, c.requires.0, c.put_moves-row.ensures.ends, put_long c.put_moves-row.ensures, held_rows c.args.blocks)

pub put_ranks-requires : goal.put_ranks-requires
put_ranks-requires c = omega (arith, c.requires.1, c.put_ranks-rank.ensures.ends, put_long c.put_ranks-rank.ensures, held_ranks c.args.blocks)

pub shape_of-kept : goal.shape_of-kept
shape_of-kept c = put_long c.put_moves.ensures ∙ put_long c.put_moves-row.ensures

pub shape_of-ranks : goal.shape_of-ranks
shape_of-ranks c = put_long c.put_ranks.ensures ∙ put_long c.put_ranks-rank.ensures

pub returns : goal.returns
returns c = record { kept = put_over (omega (arith, c.requires.0, length-append (rows_of (moves_of (ranked c.args.blocks))) (rows_of (moves_of (ranked c.args.others))), held_rows c.args.blocks, held_rows c.args.others)) (put_then c.put_moves-row.ensures c.put_moves.ensures); ranks = put_over (omega (arith, c.requires.1, length-append (ranks_of (ranked c.args.blocks)) (ranks_of (ranked c.args.others)), held_ranks c.args.blocks, held_ranks c.args.others)) (put_then c.put_ranks-rank.ensures c.put_ranks.ensures) }
