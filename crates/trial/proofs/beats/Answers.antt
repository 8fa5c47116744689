-- `trial::beats` meets its contract. Assumes nothing.
use Rattle.trial.proofs.beats.Goals as goal

pub returns-in-Found : goal.returns-in-Found
returns-in-Found c = rw c.in-Found.is
