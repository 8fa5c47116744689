-- `fitness::last_steps::fitness_by_last_steps` meets its contract, by those of the three that it calls.
use Rattle.fitness.proofs.last_steps.fitness_by_last_steps.Goals as goal

pub returns : goal.returns
returns c = rw (c.weighted.ensures, c.sums_by_last_steps-of.ensures.0, c.weight-w.ensures)
