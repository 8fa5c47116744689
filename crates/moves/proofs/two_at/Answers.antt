-- `moves::two_at` meets its contract. Assumes nothing.
use Rattle.moves.proofs.PairLaws.{stretch_is}
use Rattle.moves.proofs.two_at.Goals as goal

pub returns : goal.returns
returns c = rw (stretch_is c.args.cells.now c.requires.0 c.args.machine c.requires.1)
