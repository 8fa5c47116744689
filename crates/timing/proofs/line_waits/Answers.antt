use Rattle.timing.proofs.line_waits.Goals as goal

pub returns-in_default : goal.returns-in_default
returns-in_default c = rw (← c.link_of.ensures, c.in_default.is)

pub returns : goal.returns
returns c = rw (← c.link_of.ensures, c.in-Some.is)
