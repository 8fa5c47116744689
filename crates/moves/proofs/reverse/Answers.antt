-- `moves::reverse` meets its contract. Assumes nothing.
use Rattle.moves.proofs.reverse.Goals as goal

pub returns-in-Swap : goal.returns-in-Swap
returns-in-Swap c = rw c.in-Swap.is

pub returns-in-Shift : goal.returns-in-Shift
returns-in-Shift c = rw c.in-Shift.is

pub returns-in-Reassign : goal.returns-in-Reassign
returns-in-Reassign c = rw c.in-Reassign.is
