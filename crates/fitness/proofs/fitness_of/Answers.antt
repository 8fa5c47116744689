-- `fitness::fitness_of` meets its contract, by those of the three that it calls.
use Rattle.fitness.proofs.fitness_of.Goals as goal

pub returns : goal.returns
returns c = rw (c.weighted.ensures, c.sums_of-of.ensures.0, c.weight-w.ensures)
