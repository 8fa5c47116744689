use Rattle.bounds.proofs.span.Goals as goal

pub returns : goal.returns
returns c = rw c.times_on-t.ensures
