-- `trial::forbid::left_after` meets its contract. Assumes nothing.
use Rattle.trial.proofs.forbid.left_after.Goals as goal

pub returns-in-Reassign : goal.returns-in-Reassign
returns-in-Reassign c = rw c.in-Reassign.is c.list.ensures
