-- `board::last_placed` meets its contract: the cell's number is an activity or not.
use Rattle.board.proofs.SeatLaws.{last_to, last_none}
use Rattle.board.proofs.last_placed.Goals as goal

pub returns-then-a-n : goal.returns-then-a-n
returns-then-a-n c = last_to c.args.n c.args.cells.now c.args.k c.if-a-n.true

pub returns : goal.returns
returns c = last_none c.args.n c.args.cells.now c.args.k c.if-a-n.false
