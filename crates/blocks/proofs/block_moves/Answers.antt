-- `blocks::block_moves` meets its contract: the moves that were offered are each move once, and they are sorted only where they are more than three.
use Rattle.blocks.proofs.PathLaws.{scanned}
use Rattle.blocks.proofs.BlockLaws.{three_kept}
use Rattle.blocks.proofs.block_moves.Goals as goal

pub count_moves-count-requires : goal.count_moves-count-requires
count_moves-count-requires c = scanned c.requires.0.searched.pathed c.requires.0.searched.weighed.few

pub returns : goal.returns
returns c = three_kept c.count_moves-count.result c.count_moves-count.ensures c.offer_blocks.ensures
