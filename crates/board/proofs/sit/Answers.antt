-- `board::sit` meets its contract: places the seat: every cell is there, and what is written is the seat placed.
use mathlib.Core.Path.{refl}
use Rattle.board.proofs.BoardLaws.{sit_is}
use Rattle.board.proofs.sit.Goals as goal

pub returns : goal.returns
returns c = record { board = λ p e. sit_is p c.args.seat c.args.task c.args.count c.args.order.now c.args.starts.now c.args.ends.now c.args.setups.now c.args.lines.now c.args.steps.now c.args.settled.now c.requires.ordered e; order = refl }
